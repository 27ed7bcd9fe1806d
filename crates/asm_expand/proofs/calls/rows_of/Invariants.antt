use Rattle.std.proofs.Common.{drop}
use Rattle.expand_model.specs.Prototypes.{argument_rows}
use Rattle.asm_expand.specs.Calling.{HasRows}
use Rattle.asm_expand.proofs.calls.rows_of.Given as goal

abbrev pub invariant-loop-i : goal.invariant-loop-i
invariant-loop-i l = HasRows l.map (argument_rows (drop l.i l.parameters) (drop l.i l.texts))
