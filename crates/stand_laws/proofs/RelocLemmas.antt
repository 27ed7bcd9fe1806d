-- The relocations of an area: where their fields are, what they name, and that each field has one.
use Rattle.std.proofs.Common.{◌≡◌, ◌≢◌, ◌⊎◌, inl, inr, ℕ, zero, suc, ◌+◌, ◌*◌, ◌%◌, ◌^◌, ◌<◌, Bool, true, false, List, [], ◌∷◌, ◌++◌, Some, refl, sym, ap, subst, ◌∙◌, arith}
use Rattle.std.specs.Prelude.{slice_get, ◌==◌}
use Rattle.sdt_word.specs.Numbers.{bit, bits}
use Rattle.aof_object.specs.declared.records.Reloc.{Reloc}
use Rattle.patch_model.specs.Fields.{Kind, Word, Branch, field_of, kind_by, kind_of, place_by, is_relative, is_by_symbol, number_named, directives}
use Rattle.patch_model.proofs.SumLemmas.{directive_law}
use Rattle.source_model.specs.Objects.{IsRelocOf, IsRising}
use Rattle.source_laws.proofs.ObjectLemmas.{rising_rest, rising_later}

-- ---- lists

pub reloc_at : (rs : List Reloc) (k : ℕ) (r : Reloc) → slice_get rs k ≡ Some r → IsRelocOf rs r
reloc_at [] k r e = absurd (cc)
reloc_at (x ∷ rs) zero r e = let same : r ≡ x = cc in inl same
reloc_at (x ∷ rs) (suc k) r e = inr (reloc_at rs k r e)

pub reloc_place : (rs : List Reloc) (r : Reloc) → IsRelocOf rs r → (k : ℕ) × (slice_get rs k ≡ Some r)
reloc_place [] r h = absurd h
reloc_place (x ∷ rs) r (inl e) = (0, ap Some (sym e))
reloc_place (x ∷ rs) r (inr h) = let p = reloc_place rs r h in (suc p.0, p.1)

-- fields stand in the order of the offsets
abbrev pub PlacesRise : List Reloc → Type 0
PlacesRise rs = (q r : Reloc) → IsRelocOf rs q → IsRelocOf rs r → q.offset < r.offset → (field_of q).place < (field_of r).place

above : (a b : ℕ) → b < a → a ≢ b
above a b h same = omega arith

below : (a b : ℕ) → a < b → a ≢ b
below a b h same = omega arith

none_behind : (x : Reloc) (rs : List Reloc) → IsRising (x ∷ rs) → PlacesRise (x ∷ rs) → directives rs (field_of x) ≡ []
none_behind x rs rise places =
    directive_law.none (field_of x) rs
    (λ k q there.
    let i = reloc_at rs k q there in
    above (field_of q).place (field_of x).place (places x q (inl refl) (inr i) (rising_later x rs rise q i)))

none_here : (x r : Reloc) (rs : List Reloc) → IsRising (x ∷ rs) → PlacesRise (x ∷ rs) → IsRelocOf rs r → directives (x ∷ []) (field_of r) ≡ []
none_here x r rs rise places i = directive_law.none (field_of r) (x ∷ []) (λ k q there. at_first q (reloc_at (x ∷ []) k q there))
  where
    at_first : (q : Reloc) → (q ≡ x) ⊎ ⊥ → (field_of q).place ≢ (field_of r).place
    at_first q (inl e) =
        subst (λ (z : Reloc). (field_of z).place ≢ (field_of r).place) (sym e)
        (below (field_of x).place (field_of r).place (places x r (inl refl) (inr i) (rising_later x rs rise r i)))
    at_first q (inr e) = absurd e

-- a field has the directive that it is of, and no other
pub own_directives : (rs : List Reloc) (r : Reloc) → IsRising rs → PlacesRise rs → IsRelocOf rs r → directives rs (field_of r) ≡ r ∷ []
own_directives [] r rise places h = absurd h
own_directives (x ∷ rs) r rise places (inl e) =
    let rest = none_behind x rs rise places in
    let own = directive_law.own x in
    subst (λ (z : Reloc). directives (x ∷ rs) (field_of z) ≡ z ∷ []) (sym e)
    (directive_law.joined (field_of x) (x ∷ []) rs
    ∙ ap (λ z. z ++ directives rs (field_of x)) own ∙ ap (λ z. (x ∷ []) ++ z) rest)
own_directives (x ∷ rs) r rise places (inr i) =
    directive_law.joined (field_of r) (x ∷ []) rs
    ∙ ap (λ z. z ++ directives rs (field_of r)) (none_here x r rs rise places i)
    ∙ own_directives rs r (rising_rest x rs rise) (λ p q j k. places p q (inr j) (inr k)) i

-- ---- parts of a directive

pub record RelocIs (r : Reloc) (at : ℕ) (kind : Kind) (relative by_symbol : Bool) (n : ℕ) : Type 0 where
  pub place : (field_of r).place ≡ at
  pub kind_is : kind_of r ≡ kind
  pub relative_is : is_relative r ≡ relative
  pub by_symbol_is : is_by_symbol r ≡ by_symbol
  pub number : number_named r ≡ n

parts_are : (r : Reloc) (at type relative by_symbol n : ℕ) (kind : Kind) → bits r.word 24 2 ≡ type → bit r.word 26 ≡ relative → bit r.word 27 ≡ by_symbol
    → r.word % 2 ^ 24 ≡ n
    → place_by type r.offset ≡ at → kind_by type (r.offset % 2 == 1) ≡ kind → RelocIs r at kind (relative == 1) (by_symbol == 1) n
parts_are r at type relative by_symbol n kind e f g h place is = record {
  place = ap (λ t. place_by t r.offset) e ∙ place;
  kind_is = ap (λ t. kind_by t (r.offset % 2 == 1)) e ∙ is;
  relative_is = ap (λ t. t == 1) f;
  by_symbol_is = ap (λ t. t == 1) g;
  number = h;
}

pub by_area : (at n : ℕ) → n < 2 ^ 24 → RelocIs (record { offset = at; word = 2 ^ 31 + 2 * 2 ^ 24 + n }) at Word false false n
by_area at n h =
    parts_are (record { offset = at; word = 2 ^ 31 + 2 * 2 ^ 24 + n }) at 2 0 0 n Word (omega arith) (omega arith) (omega arith) (omega arith) refl refl

pub by_symbol : (at n : ℕ) → n < 2 ^ 24 → RelocIs (record { offset = at; word = 2 ^ 31 + 2 ^ 27 + 2 * 2 ^ 24 + n }) at Word false true n
by_symbol at n h =
    parts_are (record { offset = at; word = 2 ^ 31 + 2 ^ 27 + 2 * 2 ^ 24 + n }) at 2 0 1 n Word (omega arith) (omega arith) (omega arith) (omega arith) refl
    refl

pub of_branch : (at n : ℕ) → n < 2 ^ 24 → at % 4 ≡ 0 → RelocIs (record { offset = at; word = 2 ^ 31 + 2 ^ 27 + 2 ^ 26 + 3 * 2 ^ 24 + n }) at (Branch false) true
    true n
of_branch at n h aligned =
    let even : at % 2 ≡ 0 = omega arith in
    parts_are (record { offset = at; word = 2 ^ 31 + 2 ^ 27 + 2 ^ 26 + 3 * 2 ^ 24 + n }) at 3 1 1 n (Branch false) (omega arith) (omega arith) (omega arith)
    (omega arith)
    (omega arith) (ap (λ m. Branch (m == 1)) even)

pub of_pair : (at n : ℕ) → n < 2 ^ 24 → at % 2 ≡ 0 → RelocIs (record { offset = at + 1; word = 2 ^ 31 + 2 ^ 27 + 2 ^ 26 + 3 * 2 ^ 24 + n }) at (Branch true)
    true true n
of_pair at n h even =
    let odd : (at + 1) % 2 ≡ 1 = omega arith in
    parts_are (record { offset = at + 1; word = 2 ^ 31 + 2 ^ 27 + 2 ^ 26 + 3 * 2 ^ 24 + n }) at 3 1 1 n (Branch true) (omega arith) (omega arith) (omega arith)
    (omega arith)
    (omega arith) (ap (λ m. Branch (m == 1)) odd)
