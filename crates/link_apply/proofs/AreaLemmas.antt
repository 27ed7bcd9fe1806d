-- The bytes of an area without flaws.
use Rattle.std.proofs.Common.{◌≡◌, ◌⊎◌, inl, inr, ℕ, zero, suc, ◌+◌, ◌*◌, ◌-◌, ◌/◌, ◌%◌, ◌^◌, ◌<◌, ◌≤◌, Bool, true, false, List, [], ◌∷◌, length, take, drop, get_or, length-take-le, length-drop, refl, sym, ap, subst, ◌∙◌, arith}
use Rattle.std.specs.Prelude.{Option, Some, None, not, ◌||◌, ◌&&◌, nat_lt, nat_le, ◌==◌, slice_get}
use Rattle.std.specs.List.{find, list_any}
use Rattle.std.proofs.lemmas.Bool.{or_parts, and_parts, and_from, false_from_ne_true, ltb-true, ltb-false, leb-true, lt-ltb, le-leb, eqb-true, cases_lt}
use Rattle.std.proofs.lemmas.List.{get_or-take, get_or-drop, get_or_past}
use Rattle.std.proofs.lemmas.Grind.{same_number_lists}
use Rattle.sdt_word.specs.Bytes.{bytes_of, number_of}
use Rattle.sdt_word.proofs.BytesLemmas.{number_of-bytes_of, length-bytes_of}
use Rattle.aof_object.specs.declared.records.Area.{Area}
use Rattle.aof_object.specs.declared.records.Reloc.{Reloc}
use Rattle.patch_model.specs.Fields.{Kind, Byte, Half, Word, Branch, Field, Values, field_of, kind_of, is_same_kind, directives, added, taken, size_of, number_in}
use Rattle.patch_model.specs.Patched.{IsOutside, IsPatched, AddsUp, first_symbol, AreaPatched}
use Rattle.patch_model.proofs.PatchLemmas.{part_lt}
use Rattle.link_model.specs.declared.placing.Placement.{Placement}
use Rattle.link_apply.specs.Placed.{veneers_at}
use Rattle.link_apply.specs.declared.flaws.Flaw.TheVariants.{Malformed}
use Rattle.link_apply.specs.Flaws.{overlaps, is_of_itself, is_based, is_outside, has_bad_field, value_flaw, flaw_of}
use Rattle.link_apply.specs.PatchedBytes.{patched_number, has_byte, byte_by, patched_from, patched_bytes}
use Rattle.link_apply.specs.Laws.{AreBytes, PatchedLaw}
use Rattle.link_apply.proofs.ListLemmas.{found, none_passes, find_none, any_none, get_bytes}
use Rattle.link_apply.proofs.FieldLemmas.{none_of, adds_up, small_by}

-- ---- the byte at a place

pub length_patched : (p : Placement) (values : Values) (region base : ℕ) (a : Area) (i : ℕ) (bytes : List ℕ) → length (patched_from p values region base a i bytes) ≡ length bytes
length_patched p values region base a i [] = refl
length_patched p values region base a i (b ∷ bs) = ap (λ n. suc n) (length_patched p values region base a (suc i) bs)

get_patched : (p : Placement) (values : Values) (region base : ℕ) (a : Area) (i : ℕ) (bytes : List ℕ) (k : ℕ) → k < length bytes
    → get_or (patched_from p values region base a i bytes) k 0 ≡ byte_by p values region base a (i + k) (get_or bytes k 0) (find (has_byte (i + k)) a.relocs)
get_patched p values region base a i [] k h = absurd (omega arith)
get_patched p values region base a i (b ∷ bs) zero h =
    let e : i ≡ i + 0 = omega arith in ap (λ n. byte_by p values region base a n b (find (has_byte n) a.relocs)) e
get_patched p values region base a i (b ∷ bs) (suc k) h =
    let e : suc i + k ≡ i + suc k = omega arith in
    get_patched p values region base a (suc i) bs k (omega arith) ∙ ap (λ n. byte_by p values region base a n (get_or bs k 0) (find (has_byte n) a.relocs)) e

pub get_at : (p : Placement) (values : Values) (region base : ℕ) (a : Area) (k : ℕ) → k < length a.bytes
    → get_or (patched_bytes p values region base a) k 0 ≡ byte_by p values region base a k (get_or a.bytes k 0) (find (has_byte k) a.relocs)
get_at p values region base a k h =
    let e : 0 + k ≡ k = omega arith in
    get_patched p values region base a 0 a.bytes k h ∙ ap (λ n. byte_by p values region base a n (get_or a.bytes k 0) (find (has_byte n) a.relocs)) e

byte_lt : (p : Placement) (values : Values) (region base : ℕ) (a : Area) (i byte : ℕ) (o : Option Reloc) → byte < 2 ^ 8 → byte_by p values region base a i byte o < 2 ^ 8
byte_lt p values region base a i byte None h = h
byte_lt p values region base a i byte (Some r) h = omega arith

are_bytes : (p : Placement) (values : Values) (region base : ℕ) (a : Area) → AreBytes a.bytes → AreBytes (patched_bytes p values region base a)
are_bytes p values region base a bytes i = by_place (cases_lt i (length a.bytes))
  where
    by_place : (i < length a.bytes) ⊎ (length a.bytes ≤ i) → get_or (patched_bytes p values region base a) i 0 < 2 ^ 8
    by_place (inl h) = rw (get_at p values region base a i h) (byte_lt p values region base a i (get_or a.bytes i 0) (find (has_byte i) a.relocs) (bytes i))
    by_place (inr h) =
        let e = length_patched p values region base a 0 a.bytes in let past = get_or_past (patched_bytes p values region base a) i 0 (omega arith) in omega arith

-- ---- places outside fields

not_there : (i : ℕ) (r : Reloc) → (i < (field_of r).place) ⊎ ((field_of r).place + size_of (field_of r).kind ≤ i) → has_byte i r ≡ false
not_there i r outside = false_from_ne_true (has_byte i r) (λ e. let parts = and_parts (nat_le (field_of r).place i) (nat_lt i ((field_of r).place + size_of (field_of r).kind)) e in
    let from = leb-true (field_of r).place i parts.0 in let below = ltb-true i ((field_of r).place + size_of (field_of r).kind) parts.1 in by_side outside from below)
  where
    by_side : (i < (field_of r).place) ⊎ ((field_of r).place + size_of (field_of r).kind ≤ i) → (field_of r).place ≤ i → i < (field_of r).place + size_of (field_of r).kind → ⊥
    by_side (inl h) from below = omega arith
    by_side (inr h) from below = omega arith

others : (p : Placement) (values : Values) (region base : ℕ) (a : Area) (i : ℕ) → IsOutside a.relocs i → get_or (patched_bytes p values region base a) i 0 ≡ get_or a.bytes i 0
others p values region base a i outside = by_place (cases_lt i (length a.bytes))
  where
    by_place : (i < length a.bytes) ⊎ (length a.bytes ≤ i) → get_or (patched_bytes p values region base a) i 0 ≡ get_or a.bytes i 0
    by_place (inl h) =
        get_at p values region base a i h
        ∙ ap (λ o. byte_by p values region base a i (get_or a.bytes i 0) o) (find_none (has_byte i) a.relocs (λ k r there. not_there i r (outside k r there)))
    by_place (inr h) =
        let e = length_patched p values region base a 0 a.bytes in
        get_or_past (patched_bytes p values region base a) i 0 (omega arith) ∙ sym (get_or_past a.bytes i 0 h)

-- ---- places in a field

same_kind : (k l : Kind) → is_same_kind k l ≡ true → k ≡ l
same_kind Byte Byte e = refl
same_kind Half Half e = refl
same_kind Word Word e = refl
same_kind (Branch true) (Branch true) e = refl
same_kind (Branch false) (Branch false) e = refl
same_kind k l e = absurd (cc)

same_field : (f g : Field) → f.place ≡ g.place → f.kind ≡ g.kind → f ≡ g
same_field f g place kind = ap (λ n. record { place = n; kind = f.kind }) place ∙ ap (λ k. record { place = g.place; kind = k }) kind

-- fields that have a byte in common are the same, where none overlap
shared_field : (f g : Field) (i : ℕ) → overlaps f g ≡ false → f.place ≤ i → i < f.place + size_of f.kind → g.place ≤ i → i < g.place + size_of g.kind → f ≡ g
shared_field f g i apart f_from f_below g_from g_below = by_test (f.place == g.place && is_same_kind f.kind g.kind) refl apart
  where
    by_test : (b : Bool) → (f.place == g.place && is_same_kind f.kind g.kind) ≡ b → (not b && (nat_lt f.place (g.place + size_of g.kind) && nat_lt g.place (f.place + size_of f.kind))) ≡ false → f ≡ g
    by_test true e h = let parts = and_parts (f.place == g.place) (is_same_kind f.kind g.kind) e in same_field f g (eqb-true f.place g.place parts.0) (same_kind f.kind g.kind parts.1)
    by_test false e h =
        let one = lt-ltb f.place (g.place + size_of g.kind) (omega arith) in
        let two = lt-ltb g.place (f.place + size_of f.kind) (omega arith) in
        let both = and_from (nat_lt f.place (g.place + size_of g.kind)) (nat_lt g.place (f.place + size_of f.kind)) one two in
        absurd (cc)

-- what is good of a field without flaw
record Good (a : Area) (r : Reloc) : Type 0 where
  within : (field_of r).place + size_of (field_of r).kind ≤ length a.bytes
  apart : (k : ℕ) (q : Reloc) → slice_get a.relocs k ≡ Some q → overlaps (field_of q) (field_of r) ≡ false

good : (area : ℕ) (a : Area) (r : Reloc) → has_bad_field area a r ≡ false → Good a r
good area a r e =
    let overlapping : Bool = list_any (λ q. overlaps (field_of q) (field_of r)) a.relocs in
    let one = or_parts (is_outside a.bytes (field_of r)) (is_of_itself area r || (is_based r || overlapping)) e in
    let two = or_parts (is_of_itself area r) (is_based r || overlapping) one.1 in
    let three = or_parts (is_based r) overlapping two.1 in
    record {
      within = ltb-false (length a.bytes) ((field_of r).place + size_of (field_of r).kind) one.0;
      apart = any_none (λ q. overlaps (field_of q) (field_of r)) a.relocs three.1;
    }

has_it : (i : ℕ) (r : Reloc) → (field_of r).place ≤ i → i < (field_of r).place + size_of (field_of r).kind → has_byte i r ≡ true
has_it i r from below =
    and_from (nat_le (field_of r).place i) (nat_lt i ((field_of r).place + size_of (field_of r).kind)) (le-leb (field_of r).place i from)
    (lt-ltb i ((field_of r).place + size_of (field_of r).kind) below)

in_field : (p : Placement) (values : Values) (region base : ℕ) (a : Area) (k : ℕ) (r : Reloc) (i : ℕ) → slice_get a.relocs k ≡ Some r → Good a r
    → (field_of r).place ≤ i → i < (field_of r).place + size_of (field_of r).kind
    → get_or (patched_bytes p values region base a) i 0 ≡ patched_number p values region base a (field_of r) / 2 ^ (8 * (i - (field_of r).place)) % 2 ^ 8
in_field p values region base a k r i there good from below =
    let room = good.within in
    get_at p values region base a i (omega arith) ∙ by_find (find (has_byte i) a.relocs) refl
  where
    by_find : (o : Option Reloc) → find (has_byte i) a.relocs ≡ o
        → byte_by p values region base a i (get_or a.bytes i 0) o ≡ patched_number p values region base a (field_of r) / 2 ^ (8 * (i - (field_of r).place)) % 2 ^ 8
    by_find None e = let no = none_passes (has_byte i) a.relocs e k r there in let yes = has_it i r from below in absurd (cc)
    by_find (Some q) e =
        let h = found (has_byte i) a.relocs q e in
        let parts = and_parts (nat_le (field_of q).place i) (nat_lt i ((field_of q).place + size_of (field_of q).kind)) h.passes in
        let same = shared_field (field_of q) (field_of r) i (good.apart h.number q h.there) (leb-true (field_of q).place i parts.0)
        (ltb-true i ((field_of q).place + size_of (field_of q).kind) parts.1) from below in
        ap (λ f. patched_number p values region base a f / 2 ^ (8 * (i - f.place)) % 2 ^ 8) same

-- ---- the number of a field

part_is : (new : List ℕ) (n place v : ℕ) → place + n ≤ length new → ((i : ℕ) → place ≤ i → i < place + n → get_or new i 0 ≡ v / 2 ^ (8 * (i - place)) % 2 ^ 8)
    → take n (drop place new) ≡ bytes_of v n
part_is new n place v room each =
    let size = length-take-le n (drop place new) (omega (arith, length-drop place new)) in
    let other = length-bytes_of v n in
    same_number_lists (take n (drop place new)) (bytes_of v n) (omega arith)
    (λ k h. let within : k < n = omega arith in
    let back : place + k - place ≡ k = omega arith in
    get_or-take n (drop place new) k 0 within ∙ get_or-drop place new k 0 ∙ each (place + k) (omega arith) (omega arith)
    ∙ ap (λ j. v / 2 ^ (8 * j) % 2 ^ 8) back ∙ sym (get_bytes v n k within))

-- a field that is none of the bad ones, whose number is what its directives ask for
pub record IsFit (p : Placement) (values : Values) (region base area : ℕ) (a : Area) (r : Reloc) : Type 0 where
  pub form : has_bad_field area a r ≡ false
  pub adds : AddsUp (kind_of r) (base + (field_of r).place) values (veneers_at p region) (number_in a.bytes (field_of r)) (patched_number p values region base a (field_of r))
      (added values (directives a.relocs (field_of r))) (taken base (directives a.relocs (field_of r))) (first_symbol (directives a.relocs (field_of r)))

fields : (p : Placement) (values : Values) (region base area : ℕ) (a : Area) (k : ℕ) (r : Reloc) → AreBytes a.bytes → slice_get a.relocs k ≡ Some r
    → IsFit p values region base area a r
    → IsPatched base values (veneers_at p region) a.bytes (patched_bytes p values region base a) (field_of r) (directives a.relocs (field_of r))
fields p values region base area a k r bytes there fit =
    let fine = good area a r fit.form in
    let room = fine.within in
    let size = length_patched p values region base a 0 a.bytes in
    let old = part_lt a.bytes (size_of (field_of r).kind) (field_of r).place fine.within bytes in
    let small = small_by p values region base a.bytes (field_of r) (kind_of r) (directives a.relocs (field_of r)) old in
    let part = part_is (patched_bytes p values region base a) (size_of (field_of r).kind) (field_of r).place (patched_number p values region base a (field_of r)) (omega arith)
    (λ i from below. in_field p values region base a k r i there fine from below) in
    let number = ap number_of part ∙ number_of-bytes_of (patched_number p values region base a (field_of r)) (size_of (field_of r).kind) small in
    let Adds : ℕ → Type 0 = λ new.
    AddsUp (kind_of r) (base + (field_of r).place) values (veneers_at p region) (number_in a.bytes (field_of r)) new (added values (directives a.relocs (field_of r)))
    (taken base (directives a.relocs (field_of r))) (first_symbol (directives a.relocs (field_of r))) in
    subst Adds (sym number) fit.adds

pub fit_law : (p : Placement) (values : Values) (region base area : ℕ) (a : Area) → AreBytes a.bytes
    → ((k : ℕ) (r : Reloc) → slice_get a.relocs k ≡ Some r → IsFit p values region base area a r)
    → AreaPatched a.relocs a.bytes base values (veneers_at p region) (patched_bytes p values region base a)
fit_law p values region base area a bytes fit = record {
  size = length_patched p values region base a 0 a.bytes;
  bytes = are_bytes p values region base a bytes;
  within = λ k r there. (good area a r (fit k r there).form).within;
  fields = λ k r there. fields p values region base area a k r bytes there (fit k r there);
  others = others p values region base a;
}

-- as one is that has no flaw
pub without_flaw : (p : Placement) (values : Values) (region base area : ℕ) (a : Area) (k : ℕ) (r : Reloc) → AreBytes a.bytes → slice_get a.relocs k ≡ Some r
    → flaw_of p values region base area a r ≡ None → IsFit p values region base area a r
without_flaw p values region base area a k r bytes there sound =
    let parts = none_of Malformed (has_bad_field area a r) (value_flaw p values region base a r (kind_of r) (directives a.relocs (field_of r))) sound in
    let old = part_lt a.bytes (size_of (field_of r).kind) (field_of r).place (good area a r parts.0).within bytes in
    record { form = parts.0; adds = adds_up p values region base a r (kind_of r) (directives a.relocs (field_of r)) parts.1 old }

pub patched_law : PatchedLaw
patched_law p values region base area a bytes sound = fit_law p values region base area a bytes (λ k r there. without_flaw p values region base area a k r bytes there (sound k r there))
