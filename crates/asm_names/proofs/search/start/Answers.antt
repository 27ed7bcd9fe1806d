use Rattle.asm_names.specs.Equals.{pairs_of}
use Rattle.std.proofs.Common.{ℕ, false, replicate, ap, sym, ◌∙◌, subst}
use Rattle.std.proofs.lemmas.List.{length-map}
use Rattle.asm_names.specs.Equals.{pair_of}
use Rattle.asm_names.specs.Search.{AreEmpty, starts}
use Rattle.asm_names.proofs.SearchLemmas.{begun}
use Rattle.asm_names.proofs.search.start.Goals as goal

pub look_at_all-requires : goal.look_at_all-requires
look_at_all-requires c =
    let n = length-map c.args.equals.now pair_of in
    begun (pairs_of c.args.equals.now) c.args.index.now c.in_ok-none_known.field-0.items c.in_ok-no_waiting.field-0.items c.new.result.items
    c.in_ok-hand.hand.items c.requires.index
    (c.in_ok-none_known.ensures ∙ ap (λ (k : ℕ). replicate k false) (sym n))
    (subst (λ (k : ℕ). AreEmpty k c.in_ok-no_waiting.field-0.items) (sym n) c.in_ok-no_waiting.ensures) c.new.ensures.items
    (c.in_ok-hand.ensures ∙ ap starts (sym n))
