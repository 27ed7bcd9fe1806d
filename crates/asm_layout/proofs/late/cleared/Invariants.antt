use Rattle.std.proofs.Common.{List, length}
use Rattle.asm_model.specs.Laid.{LaidLine}
use Rattle.asm_checks.specs.Late.{AreWhole}
use Rattle.asm_layout.specs.Layout.{AreStatements}
use Rattle.asm_layout.specs.Late.{IsLeft}
use Rattle.asm_layout.proofs.late.cleared.Given as goal

abbrev pub invariant-lines : goal.invariant-lines
invariant-lines l = (all : List LaidLine) → AreWhole all l.pools → AreStatements all l.laid → IsLeft all l.left

abbrev pub decreases-lines : goal.decreases-lines
decreases-lines l = length l.left
