use Rattle.std.proofs.Common.{sym, ap, ◌∙◌}
use Rattle.asm_expr.specs.Places.{names_of}
use Rattle.asm_expr.proofs.PlaceLemmas.{same_places}
use Rattle.asm_expr.proofs.known.KnownNames.with_entries.Goals as goal

pub invariant_of-result : goal.invariant_of-result
invariant_of-result c = λ q. c.self.invariant q ∙ same_places q c.self.inside.entries.items c.args.entries.items
    (ap names_of c.self.view_is ∙ sym c.requires)
