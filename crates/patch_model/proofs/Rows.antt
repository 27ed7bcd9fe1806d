-- Rows that were worked by hand.
use Rattle.std.proofs.Common.{◌≡◌, ◌⊎◌, inl, inr, lit<, ℕ, zero, suc, ◌+◌, ◌<◌, ◌≤◌, ◌^◌, Bool, true, false, ◌==◌, ◌&&◌, cond, List, [], ◌∷◌, ◌++◌, get_or, refl, subst, arith}
use Rattle.std.specs.Prelude.{Some, None, slice_get}
use Rattle.sdt_word.specs.Bytes.{bytes_of}
use Rattle.aof_object.specs.declared.records.Reloc.{Reloc}
use Rattle.patch_model.specs.Fields.{Values, field_of, directives, size_of}
use Rattle.patch_model.specs.Patched.{Veneers, Directly, Turned, IsPatched, IsOutside, AreaPatched}
use Rattle.patch_model.specs.Reaches.{HasVeneer}

-- one area, and one symbol at the start of another
abbrev only : ℕ → ℕ → Bool → Values
only base number thumb =
    record { base = λ _. base; symbol = λ _. record { number = number; thumb = thumb; datum = false; home = Some (record { object = 0; area = 1; offset = 0 }) } }

-- a veneer of that symbol, in a state
abbrev at : ℕ → Bool → Veneers
at v state target other = cond (target.area == 1 && (target.offset == 0 && cond state other (cond other false true))) (Some v) None

abbrev reloc : ℕ → ℕ → Reloc
reloc offset word = record { offset = offset; word = word }

-- the area's bytes, with one directive
abbrev Row : ℕ → Values → Veneers → List ℕ → List ℕ → Reloc → Type 0
Row base values veneers old new r = IsPatched base values veneers old new (field_of r) (directives (r ∷ []) (field_of r))

-- the word 4 of a symbol at 0x100; of Thumb code it counts 1 more
pub imported_word : Row 0x8000 (only 0x8000 0x100 false) (at 0 true) (bytes_of 0x00000004 4) (bytes_of 0x00000104 4) (reloc 0 0x8A000000)
imported_word = refl

pub thumb_word : Row 0x8000 (only 0x8000 0x100 true) (at 0 true) (bytes_of 0x00000004 4) (bytes_of 0x00000105 4) (reloc 0 0x8A000000)
thumb_word = refl

-- the word 0 of an area at 0x8080, twice
pub two_shifts : IsPatched 0x8080 (only 0x8080 0 false) (at 0 true) (bytes_of 0 4) (bytes_of 0x00010100 4) (field_of (reloc 0 0x82000000))
    (directives (reloc 0 0x82000000 ∷ reloc 0 0x82000000 ∷ []) (field_of (reloc 0 0x82000000)))
two_shifts = refl

-- a byte: 0x10 less 0x90 fits, and 0xF0 with 0x20 doesn't
pub low_byte : Row 0x90 (only 0x90 0 false) (at 0 true) (0x10 ∷ []) (0x80 ∷ []) (reloc 0 0x8C000000)
low_byte = (inr (omega arith), refl)

pub high_byte : (b : ℕ) → Row 0 (only 0 0x20 false) (at 0 true) (0xF0 ∷ []) (b ∷ []) (reloc 0 0x88000000) → ⊥
high_byte b (inl h, e) = omega (arith, h)
high_byte b (inr h, e) = omega (arith, h)

-- B at offset 4 of an area at 0x8000, to a symbol at 0x8010
pub branches : Row 0x8000 (only 0x8000 0x8010 false) (at 0 true) (bytes_of 0xE1A00000 4 ++ bytes_of 0xEAFFFFFD 4) (bytes_of 0xE1A00000 4 ++ bytes_of 0xEA000001 4) (reloc 4 0x8F000000)
branches = record { branch = (lit< tt, refl); rest = refl; leads = refl }

-- BL at 0x8000 to Thumb code at 0x8008, by a veneer at 0x800C
pub arm_calls_thumb : Row 0x8000 (only 0x8000 0x8008 true) (at 0x800C true) (bytes_of 0xEBFFFFFE 4) (bytes_of 0xEB000001 4) (reloc 0 0x8F000000)
arm_calls_thumb = record { branch = (lit< tt, refl); rest = refl; leads = refl }

pub arm_veneer : HasVeneer 0x800C 0x8008 true (bytes_of 0xE59FC000 4 ++ bytes_of 0xE12FFF1C 4 ++ bytes_of 0x00008009 4)
arm_veneer = record { even = refl; contents = refl }

-- BL at 0x8000 to ARM code at 0x8008, by a veneer at 0x800C
pub thumb_calls_arm : Row 0x8000 (only 0x8000 0x8008 false) (at 0x800C false) (bytes_of 0xFFFEF7FF 4) (bytes_of 0xF804F000 4) (reloc 1 0x8F000000)
thumb_calls_arm = record { branch = (refl, refl); rest = (refl, refl); leads = refl }

pub thumb_veneer : HasVeneer 0x800C 0x8008 false (bytes_of 0x46C04778 4 ++ bytes_of 0xEAFFFFFC 4)
thumb_veneer = record { aligned = refl; field = 0xFFFFFC; fits = lit< tt; contents = refl; leads = refl }

-- a Thumb BL at 0x100 reaches 0x200 and 0x400102, and not 0x400104
pub near : Row 0x100 (only 0x100 0x200 true) (at 0 false) (bytes_of 0xFFFEF7FF 4) (bytes_of 0xF87EF000 4) (reloc 1 0x8F000000)
near = record { branch = (refl, refl); rest = (refl, refl); leads = refl }

pub farthest : Row 0x100 (only 0x100 0x400102 true) (at 0 false) (bytes_of 0xFFFEF7FF 4) (bytes_of 0xFFFFF3FF 4) (reloc 1 0x8F000000)
farthest = record { branch = (refl, refl); rest = (refl, refl); leads = refl }

pub too_far : (new : ℕ) → Turned true 0x104 (at 0 false) 0xFFFEF7FF new 0x400104 0x100 Directly → ⊥
too_far new turned = omega (arith, turned.leads)

-- all bytes of the area with that B
one_field : (x : Reloc) (P : Reloc → Type 0) → P x → (k : ℕ) (r : Reloc) → slice_get (x ∷ []) k ≡ Some r → P r
one_field x P p zero r e = let same : x ≡ r = cc in subst P same p
one_field x P p (suc k) r e = absurd (cc)

pub branch_area : AreaPatched (reloc 4 0x8F000000 ∷ []) (bytes_of 0xE1A00000 4 ++ bytes_of 0xEAFFFFFD 4) 0x8000 (only 0x8000 0x8010 false) (at 0 true)
    (bytes_of 0xE1A00000 4 ++ bytes_of 0xEA000001 4)
branch_area = record {
  size = refl;
  bytes = new_bytes;
  within = one_field (reloc 4 0x8F000000) (λ r. (field_of r).place + size_of (field_of r).kind ≤ 8) (omega arith);
  fields = one_field (reloc 4 0x8F000000)
      (λ r. IsPatched 0x8000 (only 0x8000 0x8010 false) (at 0 true) (bytes_of 0xE1A00000 4 ++ bytes_of 0xEAFFFFFD 4) (bytes_of 0xE1A00000 4 ++ bytes_of 0xEA000001 4)
      (field_of r) (directives (reloc 4 0x8F000000 ∷ []) (field_of r)))
      branches;
  others = other_bytes;
}
  where
    new_bytes : (i : ℕ) → get_or (bytes_of 0xE1A00000 4 ++ bytes_of 0xEA000001 4) i 0 < 2 ^ 8
    new_bytes zero = lit< tt
    new_bytes (suc zero) = lit< tt
    new_bytes (suc (suc zero)) = lit< tt
    new_bytes (suc (suc (suc zero))) = lit< tt
    new_bytes (suc (suc (suc (suc zero)))) = lit< tt
    new_bytes (suc (suc (suc (suc (suc zero))))) = lit< tt
    new_bytes (suc (suc (suc (suc (suc (suc zero)))))) = lit< tt
    new_bytes (suc (suc (suc (suc (suc (suc (suc zero))))))) = lit< tt
    new_bytes (suc (suc (suc (suc (suc (suc (suc (suc i)))))))) = lit< tt

    inside : (i : ℕ) → 4 ≤ i → i < 8 → IsOutside (reloc 4 0x8F000000 ∷ []) i → ⊥
    inside i from below out = by_place (out 0 (reloc 4 0x8F000000) refl)
      where
        by_place : (i < 4) ⊎ (8 ≤ i) → ⊥
        by_place (inl h) = omega arith
        by_place (inr h) = omega arith

    other_bytes : (i : ℕ) → IsOutside (reloc 4 0x8F000000 ∷ []) i
        → get_or (bytes_of 0xE1A00000 4 ++ bytes_of 0xEA000001 4) i 0 ≡ get_or (bytes_of 0xE1A00000 4 ++ bytes_of 0xEAFFFFFD 4) i 0
    other_bytes zero out = refl
    other_bytes (suc zero) out = refl
    other_bytes (suc (suc zero)) out = refl
    other_bytes (suc (suc (suc zero))) out = refl
    other_bytes (suc (suc (suc (suc zero)))) out = absurd (inside 4 (omega arith) (omega arith) out)
    other_bytes (suc (suc (suc (suc (suc zero))))) out = absurd (inside 5 (omega arith) (omega arith) out)
    other_bytes (suc (suc (suc (suc (suc (suc zero)))))) out = absurd (inside 6 (omega arith) (omega arith) out)
    other_bytes (suc (suc (suc (suc (suc (suc (suc zero))))))) out = refl
    other_bytes (suc (suc (suc (suc (suc (suc (suc (suc i)))))))) out = refl
