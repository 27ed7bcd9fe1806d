use Rattle.std.proofs.Common.{List, ap, ◌∙◌}
use Rattle.asm_model.specs.declared.names.LaidName.{LaidName}
use Rattle.asm_model.specs.Meaning.{named_in}
use Rattle.asm_expr.specs.Places.{entry}
use Rattle.asm_expr.proofs.KnownLemmas.{found_there}
use Rattle.asm_expr.proofs.known.KnownNames.find.Goals as goal

pub returns : goal.returns
returns c =
    c.entry_in.ensures ∙ ap (λ (l : List LaidName). entry l c.copied-place.result) c.as_slice.ensures.value
    ∙ found_there c.self.inside.entries.items c.self.inside.places c.args.name.now c.copied-place.result c.self.invariant
    (c.copied-place.ensures ∙ c.get.ensures.value)
    ∙ ap (named_in c.args.name.now) c.self.view_is
