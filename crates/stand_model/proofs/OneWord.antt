-- Objects of one area, which is one word with one relocation, and of one symbol.
use Rattle.std.proofs.Common.{◌≡◌, ◌⊎◌, inl, inr, lit<, ℕ, zero, suc, ◌+◌, ◌-◌, ◌%◌, ◌^◌, ◌<◌, ◌≤◌, ◌==◌, true, false, if◌then◌else◌, nat_le, List, [], ◌∷◌, get_or, ap, subst, refl, ◌∙◌, codes, arith}
use Rattle.std.specs.Prelude.{Some, None, slice_get}
use Rattle.sdt_word.specs.Bytes.{bytes_of, number_of}
use Rattle.sdt_word.specs.Numbers.{bit}
use Rattle.sdt_word.specs.declared.ranges.Range32.{Range32}
use Rattle.aof_object.specs.declared.records.Area.{Area}
use Rattle.aof_object.specs.declared.records.Object.{Object}
use Rattle.aof_object.specs.declared.records.Reloc.{Reloc}
use Rattle.aof_object.specs.declared.records.Symbol.{Symbol}
use Rattle.patch_model.specs.Fields.{Meant, Values, field_of, directives, size_of}
use Rattle.patch_model.specs.Laws.{StandsAt}
use Rattle.patch_model.specs.Patched.{Veneers, IsPatched, IsOutside, AreaPatched}
use Rattle.patch_model.specs.Reaches.{View, Shows, VeneersStand}
use Rattle.stand_model.specs.Placed.{IsMeant, IsPlaced, ShowsArea, ShowsObject}

-- ---- memory with these bytes from an address on, and nothing elsewhere

abbrev pub memory : ℕ → List ℕ → View
memory base bytes a = if nat_le base a then slice_get bytes (a - base) else None

memory_behind : (base : ℕ) (bytes : List ℕ) (i : ℕ) → memory base bytes (base + i) ≡ slice_get bytes i
memory_behind base bytes i =
    let from : nat_le base (base + i) ≡ true = grind arith in
    let offset : base + i - base ≡ i = omega arith in
    rw (from, offset) refl

shows_all : (view : View) (a : ℕ) (bytes : List ℕ) → ((i : ℕ) → view (a + i) ≡ slice_get bytes i) → Shows view a bytes
shows_all view a [] each = tt
shows_all view a (b ∷ bytes) each =
    (ap view (omega arith) ∙ each 0, shows_all view (suc a) bytes (λ i. ap view (omega arith) ∙ each (suc i)))

pub memory_shows : (base : ℕ) (bytes : List ℕ) → Shows (memory base bytes) base bytes
memory_shows base bytes = shows_all (memory base bytes) base bytes (memory_behind base bytes)

-- ---- the object

abbrev pub at_start : ℕ → Reloc
at_start word = record { offset = 0; word = word }

abbrev pub word_area : ℕ → ℕ → ℕ → Area
word_area attributes word reloc = record { name = codes "words"; attributes = attributes; size = 4; bytes = bytes_of word 4; relocs = at_start reloc ∷ [] }

abbrev pub object : Area → Symbol → Object
object a y = record { areas = a ∷ []; symbols = y ∷ []; entry = None }

-- the area's base, and what the symbol means
abbrev pub values_by : ℕ → Meant → Values
values_by base m = record { base = λ _. base; symbol = λ _. m }

-- a placed object, and memory that shows it
pub record IsPlacedAndShown (own : ℕ) (o : Object) (values : Values) (area_at : ℕ → ℕ → ℕ) (view : View) (region : ℕ → Range32) (veneers : ℕ → Veneers) : Type
    0 where
  pub placed : IsPlaced own o values area_at
  pub shown : ShowsObject view o values area_at region veneers

-- ---- its patched bytes

pub only_one : {A : Type 0} (x : A) (P : ℕ → A → Type 0) → P 0 x → (k : ℕ) (y : A) → slice_get (x ∷ []) k ≡ Some y → P k y
only_one x P p zero y e = let same : x ≡ y = cc in subst (P 0) same p
only_one x P p (suc k) y e = absurd (cc)

pub number_kept : (n : ℕ) → number_of (bytes_of n 4) ≡ n % 2 ^ 32
number_kept n = omega arith

below : (n i : ℕ) → get_or (bytes_of n 4) i 0 < 2 ^ 8
below n zero = omega arith
below n (suc zero) = omega arith
below n (suc (suc zero)) = omega arith
below n (suc (suc (suc zero))) = omega arith
below n (suc (suc (suc (suc i)))) = lit< tt

-- the relocation is of the whole word
pub record IsOfWord (r : Reloc) : Type 0 where
  pub start : (field_of r).place ≡ 0
  pub whole : size_of (field_of r).kind ≡ 4

inside : (r : Reloc) (i : ℕ) → IsOfWord r → i < 4 → IsOutside (r ∷ []) i → ⊥
inside r i of_word small out = by_place (out 0 r refl)
  where
    by_place : (i < (field_of r).place) ⊎ ((field_of r).place + size_of (field_of r).kind ≤ i) → ⊥
    by_place (inl h) = omega (arith, of_word.start, h)
    by_place (inr h) = omega (arith, of_word.start, of_word.whole, h)

others : (r : Reloc) (old new i : ℕ) → IsOfWord r → IsOutside (r ∷ []) i → get_or (bytes_of new 4) i 0 ≡ get_or (bytes_of old 4) i 0
others r old new zero of_word out = absurd (inside r 0 of_word (lit< tt) out)
others r old new (suc zero) of_word out = absurd (inside r 1 of_word (lit< tt) out)
others r old new (suc (suc zero)) of_word out = absurd (inside r 2 of_word (lit< tt) out)
others r old new (suc (suc (suc zero))) of_word out = absurd (inside r 3 of_word (lit< tt) out)
others r old new (suc (suc (suc (suc i)))) of_word out = refl

-- the word of a relocation
abbrev pub WordPatched : ℕ → Values → Veneers → ℕ → ℕ → Reloc → Type 0
WordPatched base values veneers old new r = IsPatched base values veneers (bytes_of old 4) (bytes_of new 4) (field_of r) (directives (r ∷ []) (field_of r))

pub area_patched : (r : Reloc) (old new base : ℕ) (values : Values) (veneers : Veneers) → IsOfWord r → WordPatched base values veneers old new r
    → AreaPatched (r ∷ []) (bytes_of old 4) base values veneers (bytes_of new 4)
area_patched r old new base values veneers of_word patched = record {
  size = refl;
  bytes = below new;
  within = only_one r (λ _ x. (field_of x).place + size_of (field_of x).kind ≤ 4) (omega (arith, of_word.start, of_word.whole));
  fields = only_one r (λ _ x. IsPatched base values veneers (bytes_of old 4) (bytes_of new 4) (field_of x) (directives (r ∷ []) (field_of x))) patched;
  others = λ i out. others r old new i of_word out;
}

-- ---- where both hold

pub placed_and_shown :
    (own base attributes old reloc new : ℕ) (y : Symbol) (m : Meant) (area_at : ℕ → ℕ → ℕ) (view : View) (region : ℕ → Range32) (veneers : ℕ → Veneers)
    → base % 4 ≡ 0 → base + 4 ≤ 2 ^ 32 → IsMeant own (λ _. base) y m → StandsAt area_at m m.home → ((area : ℕ) → area_at own area ≡ base)
    → bit attributes 12 == 1 ≡ false → IsOfWord (at_start reloc) → WordPatched base (values_by base m) (veneers 0) old new (at_start reloc)
    → Shows view base (bytes_of new 4) → ((area : ℕ) → VeneersStand view (region area) area_at (veneers area))
    → IsPlacedAndShown own (object (word_area attributes old reloc) y) (values_by base m) area_at view region veneers
placed_and_shown own base attributes old reloc new y m area_at view region veneers aligned ends meant home addresses kept of_word patched shows stand = record {
  placed = record {
    aligned = λ area a e. aligned;
    ends = only_one (word_area attributes old reloc) (λ _ a. base + a.size ≤ 2 ^ 32) ends;
    symbols = only_one y (λ _ x. IsMeant own (λ _. base) x m) meant;
    homes = λ k. home;
    addresses = addresses;
  };
  shown = record {
    areas = only_one (word_area attributes old reloc) (λ area a. ShowsArea view (object (word_area attributes old reloc) y) area a (values_by base m)
        (veneers area))
        (rw kept (bytes_of new 4, area_patched (at_start reloc) old new base (values_by base m) (veneers 0) of_word patched, shows));
    veneers_stand = stand;
  };
}
