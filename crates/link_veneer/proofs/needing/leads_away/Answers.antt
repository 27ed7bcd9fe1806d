use Rattle.std.proofs.Common.{◌≡◌, ℕ, List, None, ap, sym, ◌∙◌}
use Rattle.link_model.specs.Members.{link_of}
use Rattle.link_veneer.specs.Needing.{led}
use Rattle.link_veneer.proofs.NeededLemmas.{led_nowhere, none_of}
use Rattle.link_veneer.proofs.needing.leads_away.Goals as goal

pub returns : goal.returns
returns c = λ e region.
    let l = link_of c.args.linked.now in
    let nowhere : led l 0 c.args.name.object c.args.area.now.bytes c.args.reloc ≡ None =
    sym (c.led_by.ensures ∙ ap (λ (bytes : List ℕ). led l 0 c.args.name.object bytes c.args.reloc) c.as_slice.ensures)
    ∙ none_of c.led_by.result (sym c.is_some.ensures ∙ e) in
    led_nowhere l region c.args.name c.args.area.now c.args.reloc c.requires.there (sym c.is_branch.ensures ∙ c.if-not-is_branch.false) nowhere
