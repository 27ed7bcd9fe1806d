-- What the operands of a line are found by, as code keeps it and as definitions have it. This project's.
use Rattle.std.specs.Prelude.{◌≡◌, ℕ, ◌<◌, ◌&&◌, List, Bool, Option, Some}
use Rattle.asm_model.specs.declared.names.LaidName.{LaidName}
use Rattle.asm_model.specs.Meaning.{entry_stands_at}
use Rattle.asm_model.specs.Symbols.{is_in_area, keeps_state}
use Rattle.asm_names.specs.PlacedLines.{line_of, Sees}
use Rattle.source_model.specs.Contexts.{Context}
use Rattle.source_model.specs.Registers.{register_in}
use Rattle.asm_instructions.specs.declared.lookups.Lookup.{Lookup}

-- the lookup shows what a context says; RN gives numbers below 16
pub record Shows (x : Lookup) (c : Context) : Type 0 where
  pub names : c.names ≡ x.names.now
  pub line : Sees x.line.now c.line
  pub registers : (q : List ℕ) → register_in q x.registers.now ≡ register_in q c.registers
  pub small : (q : List ℕ) (n : ℕ) → register_in q c.registers ≡ Some n → n < 16

-- a context that the lookup's own lists make: each other one that it shows finds the same
abbrev pub context_of : Lookup → Context
context_of x = record {
  names = x.names.now;
  line = line_of x.line.now;
  registers = x.registers.now;
}

-- whether a branch to a name with this entry is settled
abbrev pub is_settled_at : Context → Option LaidName → Bool
is_settled_at c entry = is_in_area c.line.area (entry_stands_at entry) && keeps_state c.line.thumb entry
