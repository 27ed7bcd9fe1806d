-- The rules on names in the words of the subject: no name is exported by two linked objects, and each symbol
-- has a meaning; and what the refusals say, each of which names the first. This project's.
use Rattle.std.specs.Prelude.{◌≡◌, ◌≢◌, ◌⊎◌, ℕ, ◌%◌, ◌<◌, Bool, true, false, is_some, List, slice_get, IsSomeAnd, Option, Some, None}
use Rattle.sdt_fault.specs.declared.refusal.Refusal.{Refusal}
use Rattle.sdt_fault.specs.declared.refusal.Refusal.TheVariants.{Duplicate, Undefined}
use Rattle.aof_object.specs.declared.records.Object.{Object}
use Rattle.aof_object.specs.declared.records.Symbol.{Symbol}
use Rattle.aof_object.specs.Checks.{is_exported}
use Rattle.link_model.specs.declared.selection.Linked.{Linked}
use Rattle.link_model.specs.declared.selection.Named.{Named}
use Rattle.link_model.specs.Chosen.{exports, is_needed}
use Rattle.link_model.specs.Meaning.{meaning_of, symbol_of}
use Rattle.link_model.specs.Members.{objects_in}
use Rattle.link_model.specs.RegionNames.{names_a_region}
use Rattle.link_select.specs.Exports.{duplicate}
use Rattle.link_select.specs.Undefined.{is_known, undefined}

-- the object of a number exports the name
abbrev pub ExportsAt : List Object → List ℕ → ℕ → Type 0
ExportsAt os q i = IsSomeAnd (slice_get os i) (λ o. exports o q ≡ true)

abbrev pub AreDefinedOnce : List Object → Type 0
AreDefinedOnce os = (q : List ℕ) (i j : ℕ) → i < j → ExportsAt os q i → ExportsAt os q j → ⊥

-- a symbol that is named by its object's number and its own comes before another
abbrev pub IsBefore : ℕ → ℕ → ℕ → ℕ → Type 0
IsBefore m n i k = (m < i) ⊎ ((m ≡ i) × (n < k))

-- ---- second definitions

-- a later object exports the name
abbrev pub ExportsLater : List Object → List ℕ → ℕ → Type 0
ExportsLater os q i = (j : ℕ) × (i < j) × ExportsAt os q j

-- the symbol is exported, and a later object exports its name too
abbrev pub IsClash : List Object → ℕ → ℕ → Type 0
IsClash os i k = IsSomeAnd (symbol_of os i k) (λ s. (is_exported s.attributes ≡ true) × ExportsLater os s.name i)

-- the first such symbol, with the first later object
pub record FirstClash (os : List (Named Object)) (r : Refusal) : Type 0 where
  pub i : ℕ
  pub k : ℕ
  pub j : ℕ
  pub first : Named Object
  pub second : Named Object
  pub symbol : Symbol
  pub one : slice_get os i ≡ Some first
  pub other : slice_get os j ≡ Some second
  pub in_order : i < j
  pub there : slice_get first.value.symbols k ≡ Some symbol
  pub defines : is_exported symbol.attributes ≡ true
  pub defines_too : exports second.value symbol.name ≡ true
  pub says : r ≡ Duplicate symbol.name first.name second.name
  pub nearest : (m : ℕ) → i < m → m < j → ExportsAt (objects_in os) symbol.name m → ⊥
  pub earliest : (m n : ℕ) → IsBefore m n i k → IsClash (objects_in os) m n → ⊥

abbrev pub SaysDuplicate : List (Named Object) → Option Refusal → Type 0
SaysDuplicate os None = AreDefinedOnce (objects_in os)
SaysDuplicate os (Some r) = FirstClash os r

-- a name is refused as exported twice exactly where two objects export it, and it is the first such name
abbrev pub DuplicateLaw : Type 0
DuplicateLaw = (os : List (Named Object)) → SaysDuplicate os (duplicate os)

-- ---- names without a meaning

-- the symbol needs a meaning, and by this test its name has none
abbrev pub IsLacking : (List ℕ → Bool) → List Object → ℕ → ℕ → Type 0
IsLacking known os i k = IsSomeAnd (symbol_of os i k) (λ s. (is_needed s.attributes ≡ true) × (known s.name ≡ false))

-- the first such symbol
pub record FirstLacking (known : List ℕ → Bool) (os : List (Named Object)) (r : Refusal) : Type 0 where
  pub i : ℕ
  pub k : ℕ
  pub object : Named Object
  pub symbol : Symbol
  pub one : slice_get os i ≡ Some object
  pub there : slice_get object.value.symbols k ≡ Some symbol
  pub needs : is_needed symbol.attributes ≡ true
  pub unknown : known symbol.name ≡ false
  pub says : r ≡ Undefined symbol.name object.name
  pub earliest : (m n : ℕ) → IsBefore m n i k → IsLacking known (objects_in os) m n → ⊥

abbrev pub SaysUndefined : (List ℕ → Bool) → List (Named Object) → Option Refusal → Type 0
SaysUndefined known os None = (i k : ℕ) → IsLacking known (objects_in os) i k → ⊥
SaysUndefined known os (Some r) = FirstLacking known os r

-- a name is refused as undefined exactly where a non-weak reference is exported by no object and is no region
-- symbol, and it is the first such name
abbrev pub UndefinedLaw : Type 0
UndefinedLaw = (regions : Option (List (List ℕ))) (os : List (Named Object)) → SaysUndefined (is_known regions (objects_in os)) os (undefined regions os)

-- ---- meanings

-- the region symbols that the image has are among these numbers
abbrev pub HasNumbers : Option (List (List ℕ)) → List Object → (List ℕ → Option ℕ) → Type 0
HasNumbers regions os numbers = (q : List ℕ) → names_a_region regions os q ≡ true → is_some (numbers q) ≡ true

-- each symbol has a meaning, whatever the numbers of the region symbols are: a definition, a weak reference,
-- and a reference that isn't weak
abbrev pub HaveMeanings : Option (List (List ℕ)) → Linked → Type 0
HaveMeanings regions l =
    (numbers : List ℕ → Option ℕ) (i k : ℕ) (s : Symbol) → HasNumbers regions (objects_in l.objects) numbers
    → symbol_of (objects_in l.objects) i k ≡ Some s → s.attributes % 4 ≢ 0
    → is_some (meaning_of l.definitions numbers i k s) ≡ true
