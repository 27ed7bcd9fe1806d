-- The object of a source of one area in which one word stands.
use Rattle.std.proofs.Common.{◌≡◌, ◌⊎◌, inl, inr, lit<, ℕ, zero, suc, ◌+◌, ◌<◌, ◌≤◌, true, List, [], ◌∷◌, length, take, drop, get_or, sym, ap, subst, refl, codes, arith}
use Rattle.std.specs.Prelude.{Some, None}
use Rattle.sdt_word.specs.Bytes.{bytes_of}
use Rattle.aof_object.specs.declared.records.Symbol.{Symbol}
use Rattle.asm_model.specs.declared.statements.Statement.{Statement}
use Rattle.asm_model.specs.Before.{areas_behind}
use Rattle.asm_model.specs.Laid.{pieces_of, laid}
use Rattle.asm_model.specs.LayoutKinds.{is_thumb_area}
use Rattle.asm_model.specs.Offsets.{area_size}
use Rattle.source_model.specs.Objects.{Piece, Source, source_of, things_in, StandsIn, IsAmong, IsRelocOf, HasRelocs, HoldsBytes, KeepsBytes, IsArea, IsObject, unit_bytes, relocs_of, attributes_of, contents_of, is_kept, symbol_records, entry_of}
use Rattle.stand_model.proofs.OneWord.{at_start, word_area, object, only_one}

-- one thing stands in the first area
abbrev pub HasOne : Source → Piece → Type 0
HasOne s p = things_in s 0 ≡ p ∷ []

it_stands : (s : Source) (p : Piece) → HasOne s p → StandsIn s 0 p
it_stands s p one = subst (IsAmong p) (sym one) (inl refl)

nothing_else : (s : Source) (p : Piece) → HasOne s p → (q : Piece) → StandsIn s 0 q → q ≡ p
nothing_else s p one q stands = alone (subst (IsAmong q) one stands)
  where
    alone : IsAmong q (p ∷ []) → q ≡ p
    alone (inl h) = h
    alone (inr h) = absurd h

-- the word at the start of the area, and its relocation
pub record IsWord (s : Source) (p : Piece) (word reloc : ℕ) : Type 0 where
  pub start : p.0 ≡ 0
  pub bytes : unit_bytes p.1 ≡ bytes_of word 4
  pub relocs : relocs_of s p ≡ at_start reloc ∷ []

holds_bytes : (s : Source) (p : Piece) (word reloc : ℕ) → HasOne s p → IsWord s p word reloc → 4 ≡ area_size 0 (pieces_of s.lines)
    → HoldsBytes s 0 (bytes_of word 4)
holds_bytes s p word reloc one is size = record {
  size = size;
  standing = λ q stands. subst (λ x. take (length (unit_bytes x.1)) (drop x.0 (bytes_of word 4)) ≡ unit_bytes x.1) (sym (nothing_else s p one q stands))
      (rw (is.start, is.bytes) refl);
  others = λ i out. outside i (out p (it_stands s p one));
}
  where
    inside : (i : ℕ) → i < 4 → (i < p.0) ⊎ (p.0 + length (unit_bytes p.1) ≤ i) → ⊥
    inside i small (inl h) = omega (arith, is.start, h)
    inside i small (inr h) =
        let four : length (unit_bytes p.1) ≡ 4 = ap length is.bytes in
        omega (arith, is.start, four, h, small)

    outside : (i : ℕ) → (i < p.0) ⊎ (p.0 + length (unit_bytes p.1) ≤ i) → get_or (bytes_of word 4) i 0 ≡ 0
    outside zero h = absurd (inside 0 (lit< tt) h)
    outside (suc zero) h = absurd (inside 1 (lit< tt) h)
    outside (suc (suc zero)) h = absurd (inside 2 (lit< tt) h)
    outside (suc (suc (suc zero))) h = absurd (inside 3 (lit< tt) h)
    outside (suc (suc (suc (suc i)))) h = refl

has_relocs : (s : Source) (p : Piece) (word reloc : ℕ) → HasOne s p → IsWord s p word reloc → HasRelocs s 0 (at_start reloc ∷ [])
has_relocs s p word reloc one is = record {
  order = tt;
  all = λ q r stands among. subst (λ rs. IsRelocOf rs r) is.relocs (subst (λ x. IsRelocOf (relocs_of s x) r) (nothing_else s p one q stands) among);
  no_others = λ r among. (p, it_stands s p one, subst (λ rs. IsRelocOf rs r) (sym is.relocs) among);
}

pub is_object : (statements : List Statement) (p : Piece) (attributes word reloc : ℕ) (y : Symbol)
    → HasOne (source_of statements) p → IsWord (source_of statements) p word reloc
    → areas_behind statements ≡ codes "words" ∷ []
    → attributes_of 0 (is_thumb_area 0 statements) (laid statements) ≡ Some attributes
    → 4 ≡ area_size 0 (pieces_of (laid statements)) → is_kept (contents_of 0 (laid statements)) ≡ true
    → y ∷ [] ≡ symbol_records (source_of statements) → None ≡ entry_of (laid statements)
    → IsObject statements (object (word_area attributes word reloc) y)
is_object statements p attributes word reloc y one is named attributed size kept symbols entry = record {
  count = sym (ap length named);
  areas = only_one (word_area attributes word reloc) (λ area a. IsArea (source_of statements) area a) (record {
    name = rw named refl;
    attributes = attributed;
    size = size;
    bytes = subst (λ b. KeepsBytes (source_of statements) 0 b (bytes_of word 4)) (sym kept) (holds_bytes (source_of statements) p word reloc one is size);
    relocs = has_relocs (source_of statements) p word reloc one is;
  });
  symbols = symbols;
  entry = entry;
}
