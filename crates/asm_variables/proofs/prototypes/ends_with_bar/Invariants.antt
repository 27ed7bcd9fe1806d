use Rattle.std.proofs.Common.{◌≡◌, length}
use Rattle.asm_model.specs.Forms.{ends_with_bar}
use Rattle.asm_variables.proofs.prototypes.ends_with_bar.Given as goal

abbrev pub invariant-bytes : goal.invariant-bytes
invariant-bytes l = ends_with_bar l.rest ≡ ends_with_bar l.text

abbrev pub decreases-bytes : goal.decreases-bytes
decreases-bytes l = length l.rest
