-- The startup code's table, what it does to the memory, and how many steps it takes (this project's).
use Rattle.std.specs.Prelude.{◌≡◌, ℕ, zero, suc, ◌+◌, ◌-◌, ◌*◌, ◌/◌, ◌%◌, ◌==◌, nat_lt, if◌then◌else◌, List, [], ◌∷◌, ◌++◌}
use Rattle.sdt_word.specs.Bytes.{load, word}
use Rattle.sdt_word.specs.Numbers.{bit}
use Rattle.arm7_model.specs.Memory.{Bytes, store}
use Rattle.arm7_model.specs.Registers.{State, register, is_thumb}
use Rattle.boot_code.specs.declared.rows.CopyRow.{CopyRow}
use Rattle.boot_code.specs.declared.rows.ZeroRow.{ZeroRow}

-- ---- the table

-- a row of size 0 would end the table, so it has none
abbrev pub copy_words : List CopyRow → List ℕ
copy_words [] = []
copy_words (r ∷ rows) = if r.size == 0 then copy_words rows else r.source ∷ r.target ∷ r.size ∷ copy_words rows

abbrev pub zero_words : List ZeroRow → List ℕ
zero_words [] = []
zero_words (r ∷ rows) = if r.size == 0 then zero_words rows else r.base ∷ r.size ∷ zero_words rows

-- the rows of copies, three zeros, the rows of zero parts, two zeros, and the entry with bit 0 set for Thumb
abbrev pub table_list : List CopyRow → List ZeroRow → ℕ → List ℕ
table_list copies parts entry = copy_words copies ++ (0 ∷ 0 ∷ 0 ∷ (zero_words parts ++ (0 ∷ 0 ∷ entry ∷ [])))

-- these words stand in the memory from p on
abbrev pub HasWords : Bytes → ℕ → List ℕ → Type 0
HasWords m p [] = Unit {0}
HasWords m p (w ∷ ws) = (word m p ≡ w) × HasWords m (p + 4) ws

-- ---- the memory

-- n zero bytes
abbrev pub zeros : ℕ → List ℕ
zeros zero = []
zeros (suc n) = 0 ∷ zeros n

-- the copies in order: each moves the bytes as they then are, all at once
abbrev pub copied : Bytes → List CopyRow → Bytes
copied m [] = m
copied m (r ∷ rows) = copied (store m r.target (load m r.source r.size)) rows

abbrev pub cleared : Bytes → List ZeroRow → Bytes
cleared m [] = m
cleared m (r ∷ rows) = cleared (store m r.base (zeros r.size)) rows

-- ---- the steps

-- a copy of 8 q + t words upwards; one downwards takes two steps more
abbrev pub upward_steps : ℕ → ℕ → ℕ
upward_steps q t = if t == 0 then 6 + 5 * q else 9 + 5 * q + 4 * t

abbrev pub copy_steps : CopyRow → ℕ
copy_steps r = upward_steps (r.size / 32) (r.size % 32 / 4) + (if nat_lt r.source r.target then 2 else 0)

abbrev pub copies_steps : List CopyRow → ℕ
copies_steps [] = 0
copies_steps (r ∷ rows) = copy_steps r + copies_steps rows

abbrev pub parts_steps : List ZeroRow → ℕ
parts_steps [] = 0
parts_steps (r ∷ rows) = 4 + 3 * (r.size / 4) + parts_steps rows

abbrev pub startup_steps : List CopyRow → List ZeroRow → ℕ
startup_steps copies parts = 10 + copies_steps copies + parts_steps parts

-- ---- the counts of the bound: rows, and words of all rows

abbrev pub copied_words : List CopyRow → ℕ
copied_words [] = 0
copied_words (r ∷ rows) = r.size / 4 + copied_words rows

abbrev pub zeroed_words : List ZeroRow → ℕ
zeroed_words [] = 0
zeroed_words (r ∷ rows) = r.size / 4 + zeroed_words rows

-- ---- the end

-- FIQ and IRQ are masked
pub record AreMasked (t : State) : Type 0 where
  pub fiq : bit t.core.cpsr 6 ≡ 1
  pub irq : bit t.core.cpsr 7 ≡ 1

-- the program is entered: pc is the entry, in the state that its bit 0 says, with interrupts masked, and the memory is this
pub record IsEntered (entry : ℕ) (m : Bytes) (t : State) : Type 0 where
  pub pc : register t.core 15 ≡ entry - entry % 2
  pub thumb : is_thumb t.core.cpsr ≡ (entry % 2 == 1)
  pub memory : t.memory ≡ m
  pub masked : AreMasked t
