-- Entries that are found by their names.
use Rattle.std.proofs.Common.{◌≡◌, ℕ, List, [], ◌∷◌, Bool, true, false, cond, refl, sym, ◌∙◌, ap, Option, Some, None}
use Rattle.asm_model.specs.declared.names.LaidName.{LaidName}
use Rattle.asm_model.specs.AtLine.{HoldsEach}
use Rattle.asm_model.specs.Forms.{same}
use Rattle.asm_model.specs.Meaning.{named_in}
use Rattle.asm_model.proofs.WordLemmas.{same_true}
use Rattle.asm_expr.specs.Places.{one_entry}

-- an entry that is found has the name
pub found_name : (q : List ℕ) (list : List LaidName) (e : LaidName) → named_in q list ≡ Some e → e.name ≡ q
found_name q [] e h = absurd (cc)
found_name q (n ∷ ns) e h = by_test (same n.name q) refl h (found_name q ns e)
  where
    by_test : (b : Bool) → same n.name q ≡ b → cond b (Some n) (named_in q ns) ≡ Some e → (named_in q ns ≡ Some e → e.name ≡ q) → e.name ≡ q
    by_test true s k rest = let x : n ≡ e = cc in rw (← x) (same_true n.name q s)
    by_test false s k rest = rest k

pub each_has : (list ns : List LaidName) → HoldsEach list ns → (q : List ℕ) (e : LaidName) → named_in q ns ≡ Some e → named_in q list ≡ Some e
each_has list [] h q e g = absurd (cc)
each_has list (n ∷ ns) h q e g = by_test (same n.name q) refl (each_has list ns h.1 q e) g
  where
    by_test : (b : Bool) → same n.name q ≡ b → (named_in q ns ≡ Some e → named_in q list ≡ Some e)
        → cond b (Some n) (named_in q ns) ≡ Some e → named_in q list ≡ Some e
    by_test true s rest k = ap (λ x. named_in x list) (sym (same_true n.name q s)) ∙ h.0 ∙ k
    by_test false s rest k = rest k

pub named_same : (q : List ℕ) (list : List LaidName) (e : LaidName) → named_in q list ≡ Some e → named_in e.name list ≡ Some e
named_same q list e h = ap (λ x. named_in x list) (found_name q list e h) ∙ h

pub each_one : (list : List LaidName) (o : Option LaidName) → ((e : LaidName) → o ≡ Some e → named_in e.name list ≡ Some e) → HoldsEach list (one_entry o)
each_one list None h = tt
each_one list (Some e) h = (h e refl, tt)
