-- How an ARM image file is read: the record, or what is told of the first check that fails. The laws at the end say
-- that this is what `Checks` says. This project's.
use Rattle.std.specs.Prelude.{◌≡◌, ◌↔◌, ℕ, ◌+◌, ◌/◌, ◌%◌, ◌^◌, ◌==◌, ◌&&◌, ◌||◌, nat_le, Bool, if◌then◌else◌, List, [], ◌∷◌, length, Result, Ok, Err}
use Rattle.sdt_word.specs.Bytes.{word_in}
use Rattle.sdt_fault.specs.declared.answer.Fault.{Fault}
use Rattle.sdt_fault.specs.declared.answer.Fault.TheVariants as fault
use Rattle.sdt_fault.specs.declared.refusal.Refusal.{Refusal}
use Rattle.link_model.specs.declared.images.Aif.{Aif}
use Rattle.aif_image.specs.Checks.{Check, Long, Plain, Relocates, Enters, Sized, Mode32, checks, ro_size, rw_size, zero_size, told, IsFirstFailed, ReadsAif}

abbrev pub is_nop : ℕ → Bool
is_nop w = w == 0xE1A00000

abbrev pub is_call : ℕ → Bool
is_call w = w / 2 ^ 24 == 0xEB

abbrev pub has_sizes : List ℕ → Bool
has_sizes b =
    ro_size b % 4 == 0 && rw_size b % 4 == 0 && zero_size b % 4 == 0
    && nat_le 0x80 (ro_size b) && nat_le (ro_size b + rw_size b) (length b)

abbrev pub holds : Check → List ℕ → Bool
holds Long b = nat_le 0x80 (length b)
holds Plain b = is_nop (word_in b 0)
holds Relocates b = is_nop (word_in b 4) || is_call (word_in b 4)
holds Enters b = is_call (word_in b 0xC)
holds Sized b = has_sizes b
holds Mode32 b = word_in b 0x30 % 256 == 32

abbrev pub record_of : List ℕ → Aif
record_of b = record {
  ro = ro_size b;
  rw = rw_size b;
  zero = zero_size b;
  base = word_in b 0x28;
  relocatable = is_call (word_in b 4);
}

-- the record, behind these checks
abbrev pub judged : List Check → List ℕ → Result Aif Refusal
judged [] b = Ok (record_of b)
judged (c ∷ cs) b = if holds c b then judged cs b else Err (told c b)

unfoldable pub aif_of : List ℕ → Result Aif Refusal
aif_of b = judged checks b

-- the error tells the first check that fails, unless memory was refused
abbrev pub IsFaultOf : List ℕ → Fault → Type 0
IsFaultOf b fault.NoMemory = Unit {0}
IsFaultOf b (fault.Refused r) = (c : Check) × (r ≡ told c b) × IsFirstFailed b c
IsFaultOf b (fault.ReadFault name) = ⊥

-- ---- the laws

abbrev pub AifLaw : Type 0
AifLaw = (b : List ℕ) (a : Aif) → (aif_of b ≡ Ok a) ↔ ReadsAif b a

-- bytes have at most one record
abbrev pub OneRecord : Type 0
OneRecord = (b : List ℕ) (a c : Aif) → ReadsAif b a → ReadsAif b c → a ≡ c

-- the check that is told is the first that fails
abbrev pub FirstFailedLaw : Type 0
FirstFailedLaw = (b : List ℕ) (c : Check) → (aif_of b ≡ Err (told c b)) ↔ IsFirstFailed b c
