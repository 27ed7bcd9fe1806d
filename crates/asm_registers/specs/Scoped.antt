-- What is told of registers that a line names. This project's.
use Rattle.std.specs.Prelude.{List, Option}
use Rattle.sdt_fault.specs.declared.kinds.LineKind.{LineKind}
use Rattle.asm_model.specs.declared.operands.Register.{Register}
use Rattle.asm_model.specs.Kinds.{told_kind}
use Rattle.source_model.specs.Registers.{names_kinds}
use Rattle.asm_registers.specs.declared.naming.Scope.{Scope}

abbrev pub told_of : Scope → List Register → Option LineKind
told_of s rs = told_kind (names_kinds s.all.now s.declared.now s.known.now rs)
