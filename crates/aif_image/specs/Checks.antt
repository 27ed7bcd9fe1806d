-- ARM image files, as a relation between their bytes and a record: the checks that a file meets, and the words of
-- its header (SDT 2.50 Reference Guide, ARM Image Format; the order of the checks, and what is told of each that
-- fails, are this project's). Words are little-endian, and places are offsets in bytes.
use Rattle.std.specs.Prelude.{◌≡◌, ◌↔◌, ◌⊎◌, ℕ, ◌+◌, ◌/◌, ◌%◌, ◌^◌, ◌≤◌, IsTrue, List, [], ◌∷◌, ◌++◌, length}
use Rattle.std.specs.List.{AllByRecursion}
use Rattle.sdt_word.specs.Bytes.{word_in}
use Rattle.sdt_fault.specs.declared.kinds.FileKind.{FileKind}
use Rattle.sdt_fault.specs.declared.kinds.FileKind.TheVariants as kind
use Rattle.sdt_fault.specs.declared.refusal.Refusal.{Refusal}
use Rattle.sdt_fault.specs.declared.refusal.Refusal.TheVariants.{BadImage}
use Rattle.link_model.specs.declared.images.Aif.{Aif}

-- ---- words of the header

-- MOV r0,r0, and BL under the condition always
abbrev pub IsNop : ℕ → Type 0
IsNop w = w ≡ 0xE1A00000

abbrev pub IsCall : ℕ → Type 0
IsCall w = w / 2 ^ 24 ≡ 0xEB

-- the sizes of the read-only part with the header, of the read-write part and of the zero-initialised part
abbrev pub ro_size : List ℕ → ℕ
ro_size b = word_in b 0x14

abbrev pub rw_size : List ℕ → ℕ
rw_size b = word_in b 0x18

abbrev pub zero_size : List ℕ → ℕ
zero_size b = word_in b 0x20

-- the parts are of whole words, the header lies in the read-only part, and the file has both parts
pub record HasSizes (b : List ℕ) : Type 0 where
  pub ro_whole : ro_size b % 4 ≡ 0
  pub rw_whole : rw_size b % 4 ≡ 0
  pub zero_whole : zero_size b % 4 ≡ 0
  pub header : 0x80 ≤ ro_size b
  pub within : ro_size b + rw_size b ≤ length b

-- ---- the checks

pub data Check : Type 0 where
  Long : Check
  Plain : Check
  Relocates : Check
  Enters : Check
  Sized : Check
  Mode32 : Check

abbrev pub checks : List Check
checks = Long ∷ Plain ∷ Relocates ∷ Enters ∷ Sized ∷ Mode32 ∷ []

-- the file has a header, its first word decompresses nothing, the second calls a relocator or nothing, the fourth
-- calls the entry, the sizes fit the file, and addresses have 32 bits
abbrev pub Holds : Check → List ℕ → Type 0
Holds Long b = 0x80 ≤ length b
Holds Plain b = IsNop (word_in b 0)
Holds Relocates b = IsNop (word_in b 4) ⊎ IsCall (word_in b 4)
Holds Enters b = IsCall (word_in b 0xC)
Holds Sized b = HasSizes b
Holds Mode32 b = word_in b 0x30 % 256 ≡ 32

-- what is told where a check fails: an offset and a kind
abbrev pub place_of : Check → List ℕ → ℕ
place_of Long b = length b
place_of Plain b = 0
place_of Relocates b = 4
place_of Enters b = 0xC
place_of Sized b = 0x14
place_of Mode32 b = 0x30

abbrev pub kind_of : Check → FileKind
kind_of Long = kind.Short
kind_of Plain = kind.Compressed
kind_of Relocates = kind.Header
kind_of Enters = kind.NotExecutable
kind_of Sized = kind.Sizes
kind_of Mode32 = kind.Mode

abbrev pub told : Check → List ℕ → Refusal
told c b = BadImage [] (place_of c b) (kind_of c)

-- the check fails, and those before it hold
pub record IsFirstFailed (b : List ℕ) (c : Check) : Type 0 where
  pub before : List Check
  pub after : List Check
  pub order : checks ≡ before ++ c ∷ after
  pub held : AllByRecursion (λ d. Holds d b) before
  pub failed : Holds c b → ⊥

-- ---- what is read

-- The bytes are an AIF of this record. Nothing judges the other words of the header, or what stands behind the parts.
pub record ReadsAif (b : List ℕ) (a : Aif) : Type 0 where
  pub checked : (c : Check) → Holds c b
  pub ro : a.ro ≡ ro_size b
  pub rw : a.rw ≡ rw_size b
  pub zero : a.zero ≡ zero_size b
  pub base : a.base ≡ word_in b 0x28
  pub relocatable : IsTrue a.relocatable ↔ IsCall (word_in b 4)
