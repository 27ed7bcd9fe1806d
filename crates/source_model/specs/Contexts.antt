-- What the operands of a statement mean in the end: its registers by their numbers, and its expressions with all names of
-- the source. This project's.
use Rattle.std.specs.Prelude.{ℕ, ◌+◌, ◌-◌, ◌%◌, ◌^◌, ◌==◌, ◌&&◌, not, nat_lt, List, Bool, true, false, if◌then◌else◌, Option, Some, None, Result, Ok, Err}
use Rattle.sdt_fault.specs.declared.kinds.LineKind.{LineKind}
use Rattle.sdt_fault.specs.declared.kinds.LineKind.TheVariants.{WrongType, BadOperand, OutOfRange}
use Rattle.asm_model.specs.declared.exprs.Expr.{Expr}
use Rattle.asm_model.specs.declared.names.LaidName.{LaidName}
use Rattle.asm_model.specs.declared.names.Meaning.{Meaning}
use Rattle.asm_model.specs.declared.names.Meaning.TheVariants as means
use Rattle.asm_model.specs.declared.names.Names.{Names}
use Rattle.asm_model.specs.declared.operands.Register.{Register}
use Rattle.asm_model.specs.declared.values.Value.{Value}
use Rattle.asm_model.specs.declared.values.Value.TheVariants.{Place}
use Rattle.asm_model.specs.AtLine.{SourceLine, with_names}
use Rattle.asm_model.specs.Labels.{is_hidden}
use Rattle.asm_model.specs.Meaning.{named_in, stands_at}
use Rattle.asm_model.specs.Extents.{as_number}
use Rattle.asm_model.specs.Laid.{final_value}
use Rattle.source_model.specs.Registers.{Named, number_of}

-- all names of the source, the statement's line, and the names for registers that are known there
pub record Context : Type 0 where
  pub names : List LaidName
  pub line : SourceLine
  pub registers : List Named

abbrev pub sees : Context → Names
sees c = with_names c.line c.names

abbrev pub value_of : Context → Expr → Result Value LineKind
value_of c e = final_value c.names c.line e

abbrev pub number_in : Context → Expr → Result ℕ LineKind
number_in c e = as_number (value_of c e)

abbrev pub or_zero : Option ℕ → ℕ
or_zero None = 0
or_zero (Some n) = n

-- ---- symbols: labels and imports may have one, and no local label, whose name no line can spell

abbrev pub is_symbol : Meaning → Bool
is_symbol means.Label = true
is_symbol means.Imported = true
is_symbol _ = false

abbrev pub is_symbol_entry : Option LaidName → Bool
is_symbol_entry None = false
is_symbol_entry (Some n) = is_symbol n.meaning

abbrev pub may_have_symbol : Context → List ℕ → Bool
may_have_symbol c name = is_symbol_entry (named_in name c.names) && not (is_hidden name)

-- ---- registers

-- the number of a register; each name of a source without faults has one
abbrev pub register : Context → Register → ℕ
register c r = or_zero (number_of c.registers r)

-- ---- numbers that are read as signed

abbrev pub is_positive : ℕ → Bool
is_positive n = nat_lt n (2 ^ 31)

abbrev pub magnitude : ℕ → ℕ
magnitude n = if is_positive n then n else 2 ^ 32 - n

-- an offset: whether it is added, and its magnitude, which is below a limit
abbrev pub offset_below : ℕ → ℕ → Result (Bool × ℕ) LineKind
offset_below limit n = if nat_lt (magnitude n) limit then Ok (is_positive n, magnitude n) else Err OutOfRange

-- ---- labels of the statement's area

abbrev pub in_own_area : Option ℕ → Option (ℕ × ℕ) → ℕ → Result ℕ LineKind
in_own_area (Some area) (Some a) n = if a.0 == area then Ok ((a.1 + n) % 2 ^ 32) else Err BadOperand
in_own_area _ _ n = Err BadOperand

-- the offset of a label in the statement's own area
abbrev pub own_offset : Context → Result Value LineKind → Result ℕ LineKind
own_offset c (Ok (Place s n)) = in_own_area c.line.area (stands_at (sees c) s) n
own_offset c (Ok _) = Err WrongType
own_offset c (Err k) = Err k

-- how far an offset lies behind pc as the statement's instruction reads it in ARM state, modulo 2^32
abbrev pub from_pc : Context → ℕ → ℕ
from_pc c offset = (offset + (2 ^ 32 - (c.line.offset + 8))) % 2 ^ 32
