-- The numbers that MOV encodes are the bytes rotated right by twice a number below 16. ARM Architecture Reference Manual,
-- immediate operands.
use Rattle.std.specs.Prelude.{◌≡◌, ℕ, ◌^◌, ◌<◌, true}
use Rattle.sdt_word.specs.Numbers.{operand}
use Rattle.asm_model.specs.Extents.{is_immediate}

-- a byte and a rotation that give the number
abbrev pub HasRotation : ℕ → Type 0
HasRotation n = (r : ℕ) × (byte : ℕ) × (r < 16) × (byte < 256) × (operand r byte ≡ n)

abbrev pub ImmediatesHaveRotations : Type 0
ImmediatesHaveRotations = (n : ℕ) → n < 2 ^ 32 → is_immediate n ≡ true → HasRotation n

abbrev pub RotationsAreImmediates : Type 0
RotationsAreImmediates = (r byte : ℕ) → r < 16 → byte < 256 → is_immediate (operand r byte) ≡ true
