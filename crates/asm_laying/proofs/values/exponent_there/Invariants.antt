use Rattle.std.proofs.Common.{◌≡◌, drop}
use Rattle.asm_expr.specs.Seeing.{seen_names}
use Rattle.asm_model.specs.LayoutKinds.{exponent}
use Rattle.asm_laying.proofs.values.exponent_there.Given as goal

abbrev pub invariant-loop-i : goal.invariant-loop-i
invariant-loop-i l = l.exponent ≡ exponent (seen_names l.seen) (drop l.i l.alignments)
