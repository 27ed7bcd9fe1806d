use Rattle.std.proofs.Common.{◌∙◌, ap, nat_eq}
use Rattle.std.specs.Cmp.Lexicographic.{pointwise}
use Rattle.indexmap.specs.IndexMap.{get_by}
use Rattle.link_assign.specs.Finding.{joined}
use Rattle.link_assign.specs.Shown.{shown_offer}
use Rattle.link_assign.proofs.NotingLemmas.{name_noted}
use Rattle.link_assign.proofs.choices.note_named.Goals as goal

pub returns : goal.returns
returns c = λ q. name_noted c.args.name.now q (λ n. get_by (λ k. pointwise nat_eq n k.now) c.args.names.now) _ c.joined.result (shown_offer c.args.offer.now)
    (c.joined.ensures ∙ ap (λ f. joined f (shown_offer c.args.offer.now)) c.named-finding.ensures)
    (c.in_ok-insert.ensures.updates.0 (record { ref_ptr = (0, 0); now = q }))
