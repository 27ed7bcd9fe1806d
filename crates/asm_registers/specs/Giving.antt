-- What RN gives, by the number that its expression has at its line. This project's.
use Rattle.std.specs.Prelude.{◌≡◌, ℕ, Result, Ok}
use Rattle.sdt_fault.specs.declared.kinds.LineKind.{LineKind}
use Rattle.asm_model.specs.declared.directives.RnOperand.{RnOperand}
use Rattle.asm_model.specs.declared.directives.RnOperand.TheVariants as rn
use Rattle.asm_model.specs.declared.directives.DirectiveLine.TheVariants as line
use Rattle.asm_model.specs.declared.statements.What.{What}
use Rattle.asm_model.specs.declared.statements.What.TheVariants as what
use Rattle.asm_model.specs.declared.names.Names.{Names}
use Rattle.asm_model.specs.Extents.{number_there}
use Rattle.source_model.specs.Registers.{as_register}

-- the number of RN's expression, by what its line sees; of other statements nothing is said
abbrev pub IsGiven : Names → What → Result ℕ LineKind → Type 0
IsGiven s (what.Directive (line.Rn (rn.Number e))) x = x ≡ number_there s e
IsGiven s _ x = Unit {0}

-- what RN gives where its expression has the number
abbrev pub given_by : RnOperand → Result ℕ LineKind → Result ℕ LineKind
given_by (rn.Register n) x = Ok n
given_by (rn.Number e) x = as_register x
