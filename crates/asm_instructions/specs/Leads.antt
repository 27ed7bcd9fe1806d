-- Where a branch leads, in either state: pc stands so many bytes ahead of the line, and the branch may be left to the
-- linker or not. This project's.
use Rattle.std.specs.Prelude.{ℕ, ◌+◌, ◌-◌, ◌%◌, ◌^◌, List, [], ◌∷◌, Bool, if◌then◌else◌, Result, Ok, Err}
use Rattle.sdt_fault.specs.declared.kinds.LineKind.{LineKind}
use Rattle.sdt_fault.specs.declared.kinds.LineKind.TheVariants.{BadOperand, WrongType}
use Rattle.asm_model.specs.declared.values.Value.{Value}
use Rattle.asm_model.specs.declared.values.Value.TheVariants.{Number, Place}
use Rattle.asm_model.specs.Meaning.{stands_at}
use Rattle.source_model.specs.ArmForms.{is_settled, offset_at}
use Rattle.source_model.specs.Contexts.{Context, sees}
use Rattle.source_model.specs.ThumbForms.{can_branch}

-- how far an offset lies behind pc, modulo 2^32
abbrev pub behind : ℕ → Context → ℕ → ℕ
behind ahead c offset = (offset + (2 ^ 32 - (c.line.offset + ahead))) % 2 ^ 32

-- the displacement to a symbol plus a number; a symbol that is left to the linker counts as 0
abbrev pub led_from : ℕ → Context → List ℕ → ℕ → ℕ
led_from ahead c [] n = behind ahead c n
led_from ahead c (x ∷ xs) n = behind ahead c (if is_settled c (x ∷ xs) then offset_at (stands_at (sees c) (x ∷ xs)) + n else n)

abbrev pub led : ℕ → Bool → Context → Result Value LineKind → Result ℕ LineKind
led ahead link c (Ok (Place s n)) = if can_branch link c s then Ok (led_from ahead c s n) else Err BadOperand
led ahead link c (Ok (Number n)) = Err BadOperand
led ahead link c (Ok _) = Err WrongType
led ahead link c (Err k) = Err k
