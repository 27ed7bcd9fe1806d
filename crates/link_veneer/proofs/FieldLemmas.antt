-- Fields of four bytes, counted at each place.
use Rattle.std.proofs.Common.{◌≡◌, ℕ, zero, suc, ◌+◌, Bool, true, false, cond, if◌then◌else◌, List, [], ◌∷◌, Option, Some, None, refl, sym, ap, ◌∙◌, arith}
use Rattle.std.specs.Prelude.{◌==◌, ◌%◌, ◌&&◌, is_none, unwrap_or, count_by}
use Rattle.std.proofs.lemmas.Bool.Decides.{nat_tests}
use Rattle.std.proofs.lemmas.List.Sums.{sum_by-cons}
use Rattle.sdt_word.specs.Numbers.{bits}
use Rattle.aof_object.specs.declared.records.Reloc.{Reloc}
use Rattle.patch_model.specs.Fields.{Kind, Byte, Half, Word, Branch, field_of, is_relative, is_by_symbol, kind_by, kind_of, size_of}
use Rattle.link_model.specs.Veneers.{is_alone, shares_field}
use Rattle.link_veneer.specs.Fields.{Marks, fills, is_branch_kind, mark_of, marked_by, AreMarks}

-- ---- one field more

-- what is noted of a place, with more relocations
abbrev pub marked_after : Option Bool → ℕ → List Reloc → Option Bool
marked_after mark p [] = mark
marked_after mark p (r ∷ rs) = marked_after (if fills p r then Some (is_none mark) else mark) p rs

next_mark : (n : ℕ) → mark_of (suc n) ≡ Some (is_none (mark_of n))
next_mark zero = refl
next_mark (suc zero) = refl
next_mark (suc (suc n)) = refl

counted : (n p : ℕ) (rs : List Reloc) → marked_after (mark_of n) p rs ≡ mark_of (n + count_by (fills p) rs)
counted n p [] = let e : n ≡ n + 0 = omega arith in ap mark_of e
counted n p (r ∷ rs) = go (fills p r) refl (counted n p rs) (counted (suc n) p rs)
  where
    go : (b : Bool) → fills p r ≡ b → marked_after (mark_of n) p rs ≡ mark_of (n + count_by (fills p) rs) → marked_after (mark_of (suc n)) p rs ≡ mark_of (suc n + count_by (fills p) rs)
        → marked_after (if b then Some (is_none (mark_of n)) else mark_of n) p rs ≡ mark_of (n + count_by (fills p) (r ∷ rs))
    go true e same more =
        let one : count_by (fills p) (r ∷ rs) ≡ cond (fills p r) 1 0 + count_by (fills p) rs = sum_by-cons (λ x. cond (fills p x) 1 0) r rs in
        let here : cond {A = ℕ} (fills p r) 1 0 ≡ 1 = ap (λ (b : Bool). cond {A = ℕ} b 1 0) e in
        let sum : suc n + count_by (fills p) rs ≡ n + count_by (fills p) (r ∷ rs) = omega arith in
        ap (λ (o : Option Bool). marked_after o p rs) (sym (next_mark n)) ∙ more ∙ ap mark_of sum
    go false e same more =
        let one : count_by (fills p) (r ∷ rs) ≡ cond (fills p r) 1 0 + count_by (fills p) rs = sum_by-cons (λ x. cond (fills p x) 1 0) r rs in
        let here : cond {A = ℕ} (fills p r) 1 0 ≡ 0 = ap (λ (b : Bool). cond {A = ℕ} b 1 0) e in
        let sum : n + count_by (fills p) rs ≡ n + count_by (fills p) (r ∷ rs) = omega arith in
        same ∙ ap mark_of sum

pub all_marked : (p : ℕ) (rs : List Reloc) → marked_after None p rs ≡ mark_of (count_by (fills p) rs)
all_marked p rs = let e : 0 + count_by (fills p) rs ≡ count_by (fills p) rs = omega arith in counted 0 p rs ∙ ap mark_of e

-- ---- a branch that has its field alone

kind_branch : (type : ℕ) (thumb : Bool) → is_branch_kind (kind_by type thumb) ≡ true → kind_by type thumb ≡ Branch thumb
kind_branch type thumb h = zeroth (type == 0) (type == 1) (type == 2) h
  where
    zeroth : (a b c : Bool) → is_branch_kind (cond a Byte (cond b Half (cond c Word (Branch thumb)))) ≡ true → cond a Byte (cond b Half (cond c Word (Branch thumb))) ≡ Branch thumb
    zeroth true b c e = absurd cc
    zeroth false true c e = absurd cc
    zeroth false false true e = absurd cc
    zeroth false false false e = refl

pub is_branch_of : (r : Reloc) → is_branch_kind (kind_of r) ≡ true → kind_of r ≡ Branch (r.offset % 2 == 1)
is_branch_of r h = kind_branch (bits r.word 24 2) (r.offset % 2 == 1) h

one_marked : (n : ℕ) → unwrap_or (mark_of n) false ≡ (n == 1)
one_marked zero = refl
one_marked (suc zero) = refl
one_marked (suc (suc n)) = sym (grind (arith, nat_tests))

pub marks_tell : (relocs : List Reloc) (m : Marks) (r : Reloc) (thumb : Bool) → AreMarks relocs m → kind_of r ≡ Branch thumb → marked_by m r ≡ is_alone relocs r
marks_tell relocs m r thumb known kind =
    let same : count_by (fills (field_of r).place) relocs ≡ count_by (shares_field (field_of r)) relocs =
    sym (ap (λ (k : Kind). count_by (λ x. (field_of x).place == (field_of r).place && size_of (kind_of x) == size_of k) relocs) kind) in
    ap (λ (o : Option Bool). is_relative r && (is_by_symbol r && unwrap_or o false)) (known (field_of r).place)
    ∙ ap (λ (b : Bool). is_relative r && (is_by_symbol r && b)) (one_marked (count_by (fills (field_of r).place) relocs) ∙ ap (λ (n : ℕ). n == 1) same)
