-- The registers of Thumb instructions. They are judged by the row and not here. A name in the place of a register is one
-- that an RN directive gives; it counts as one of r0 to r7, but where a row of high registers has the form too, it may
-- stand for any register. ARM SDT 2.50 Reference Guide, chapter on the assembler.
use Rattle.std.specs.Prelude.{ℕ, List, codes, nat_le, ◌==◌, Bool, true, false, Result, Ok, Err}
use Rattle.sdt_fault.specs.declared.kinds.LineKind.{LineKind}
use Rattle.sdt_fault.specs.declared.kinds.LineKind.TheVariants.{Syntax}
use Rattle.asm_model.specs.declared.tokens.Token.{Token}
use Rattle.asm_model.specs.declared.operands.Register.{Register}
use Rattle.asm_model.specs.declared.operands.Register.TheVariants as register_is
use Rattle.asm_model.specs.declared.operands.ListItem.{ListItem}
use Rattle.asm_model.specs.Readings.{and_then}
use Rattle.asm_arm.specs.Lists as lists
use Rattle.asm_arm.specs.Operands.{marked}

-- sp and pc by their own names
abbrev pub is_sp : Register → Bool
is_sp (register_is.Number n) = n == 13
is_sp (register_is.Named s) = false

abbrev pub is_pc : Register → Bool
is_pc (register_is.Number n) = n == 15
is_pc (register_is.Named s) = false

-- a register from r8 to r15, or a name, which may stand for one
abbrev pub may_be_high : Register → Bool
may_be_high (register_is.Number n) = nat_le 8 n
may_be_high (register_is.Named s) = true

-- a register list, behind which no `^` stands
abbrev pub unmarked : List ℕ → List Token × Bool → Result (List ListItem) LineKind
unmarked text (ts, true) = Err Syntax
unmarked text (ts, false) = lists.list text ts

abbrev pub register_list : List ℕ → List Token → Result (List ListItem) LineKind
register_list text ts = unmarked text (marked text (codes "^") ts)

-- a base that is written back
abbrev pub written : Bool → Register → Result Register LineKind
written true rn = Ok rn
written false rn = Err Syntax

abbrev pub written_base : List ℕ → List Token → Result Register LineKind
written_base text ts = and_then (lists.base text ts) (λ b. written b.1 b.0)
