-- Steps of the code. This project's.
use Rattle.std.specs.Prelude.{Option, Some, None}
use Rattle.asm_arm.specs.declared.operands.Cut.{Cut}
use Rattle.asm_arm.specs.Operands.{Cuts}
use Rattle.asm_arm.specs.Steps.{cut_of}

-- the operands in brackets, where there are some
abbrev pub cuts_in : Option Cut → Option Cuts
cuts_in None = None
cuts_in (Some c) = Some (cut_of c)
