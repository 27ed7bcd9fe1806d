use Rattle.std.proofs.Common.{List, ℕ, ap, sym, ◌∙◌}
use Rattle.link_model.specs.Members.{link_of}
use Rattle.link_veneer.specs.Needing.{led}
use Rattle.link_veneer.proofs.NeededLemmas.{alone_led}
use Rattle.link_veneer.proofs.needing.needed.Goals as goal

pub returns : goal.returns
returns c =
    c.led_by.ensures ∙ ap (λ (bytes : List ℕ). led (link_of c.args.linked.now) c.args.region c.args.name.object bytes c.args.reloc) c.as_slice.ensures
    ∙ sym (alone_led (link_of c.args.linked.now) c.args.region c.args.name c.args.area.now c.args.marks.now c.args.reloc c.requires.marks c.requires.there (sym c.is_branch.ensures ∙ c.if-not-is_branch.false)
    (sym c.is_alone.ensures ∙ c.if-not-is_alone.false))
