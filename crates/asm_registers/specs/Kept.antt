-- What is kept of the names for registers of a source, line by line. This project's. Lines are listed with the nearest
-- first.
use Rattle.std.specs.Prelude.{◌≡◌, ℕ, List, Bool, Result}
use Rattle.std.specs.Option.{is_some}
use Rattle.sdt_fault.specs.declared.kinds.LineKind.{LineKind}
use Rattle.asm_model.specs.declared.names.LaidName.{LaidName}
use Rattle.asm_model.specs.declared.statements.Statement.{Statement}
use Rattle.asm_model.specs.Meaning.{named_in}
use Rattle.asm_model.specs.Laid.{LaidLine}
use Rattle.source_model.specs.Registers.{register_in, registers_behind}
use Rattle.asm_registers.specs.declared.registers.Registers.{Registers}
use Rattle.asm_sets.specs.Sets.{HaveSame}
use Rattle.asm_registers.specs.Giving.{IsGiven}

-- what is kept behind lines of a source with these names for registers
pub record AreRegisters (names : List (List ℕ)) (before : List LaidLine) (r : Registers) : Type 0 where
  pub all : HaveSame r.all names
  pub known : (q : List ℕ) → register_in q r.known ≡ register_in q (registers_behind before)

-- what is known of a line before it is checked: its statement, its state, the number that RN is given, and that these are the
-- names of the source
pub record IsLine (s : Statement) (thumb : Bool) (number : Result ℕ LineKind) (declared : List LaidName) (l : LaidLine) : Type 0 where
  pub said : l.statement ≡ s
  pub state : l.thumb ≡ thumb
  pub given : IsGiven l.seen s.what number
  pub names : (q : List ℕ) → is_some (named_in q l.seen.list) ≡ is_some (named_in q declared)
