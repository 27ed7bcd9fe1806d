-- Lemmas that several crates cite.
use Rattle.asm_model.proofs.FaultLemmas.{told_by_parts}
use Rattle.asm_model.proofs.WordLemmas.{same_refl, same_true}
use Rattle.asm_model.specs.FaultSets.{first_told}
use Rattle.asm_model.specs.Forms.{same}
use Rattle.asm_model.specs.Kinds.{told_kind}
use Rattle.sdt_fault.specs.declared.kinds.LineKind.{LineKind}
use Rattle.std.proofs.Common.{Bool, List, Option, false, refl, sym, true, ℕ, ◌++◌, ◌∙◌, ◌≡◌}
use Rattle.std.proofs.lemmas.Bool.{false_from_ne_true}
use Rattle.std.proofs.lemmas.Slice.Eq.{bytes_eq-Decides}
use Rattle.std.specs.Str.{bytes_eq}

pub same_back : (a b : List ℕ) → same a b ≡ same b a
same_back a b = by_test (same a b) refl
  where
    by_test : (t : Bool) → same a b ≡ t → same a b ≡ same b a
    by_test true e = let h : a ≡ b = same_true a b e in e ∙ sym (rw h (same_refl b))
    by_test false e = e ∙ sym (false_from_ne_true (same b a) (λ t. let h : b ≡ a = same_true b a t in let g : same a b ≡ true = rw h (same_refl a) in cc))

pub told_of_two : (a b : Option LineKind) (ks js : List LineKind) → a ≡ told_kind ks → b ≡ told_kind js → first_told a b ≡ told_kind (ks ++ js)
told_of_two a b ks js e f = rw (e, f) (sym (told_by_parts ks js))

pub tests : (a b : List ℕ) → bytes_eq a b ≡ same b a
tests a b = by_test (bytes_eq a b) refl
  where
    by_test : (t : Bool) → bytes_eq a b ≡ t → bytes_eq a b ≡ same b a
    by_test true e = let h : a ≡ b = (bytes_eq-Decides a b).0 e in e ∙ sym (rw h (same_refl b))
    by_test false e = e ∙ sym (false_from_ne_true (same b a) (λ t. let h = (bytes_eq-Decides a b).1 (sym (same_true b a t)) in cc))
