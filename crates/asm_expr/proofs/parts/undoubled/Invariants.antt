use Rattle.std.proofs.Common.{◌≡◌, ◌++◌, length}
use Rattle.asm_model.specs.Parts.{undoubled}
use Rattle.asm_expr.proofs.parts.undoubled.Given as goal

abbrev pub invariant-bytes : goal.invariant-bytes
invariant-bytes l = l.words.items ++ undoubled l.rest ≡ undoubled l.quoted

abbrev pub decreases-bytes : goal.decreases-bytes
decreases-bytes l = length l.rest
