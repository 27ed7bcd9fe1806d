-- Names that a line knows.
use Rattle.std.proofs.Common.{◌≡◌, ℕ, List, [], ◌∷◌, ◌++◌, Bool, true, false, cond, refl, sym, Some, None}
use Rattle.asm_model.specs.declared.names.LaidName.{LaidName}
use Rattle.asm_model.specs.Forms.{same}
use Rattle.asm_model.specs.Meaning.{named_in}
use Rattle.asm_model.proofs.LineLemmas.{named_front}

named_back : (q : List ℕ) (xs ys : List LaidName) → named_in q xs ≡ None → named_in q (xs ++ ys) ≡ named_in q ys
named_back q [] ys h = refl
named_back q (n ∷ ns) ys h = by_test (same n.name q) h (named_back q ns ys)
  where
    by_test : (b : Bool) → cond b (Some n) (named_in q ns) ≡ None → (named_in q ns ≡ None → named_in q (ns ++ ys) ≡ named_in q ys)
        → cond b (Some n) (named_in q (ns ++ ys)) ≡ named_in q ys
    by_test true k rest = absurd (cc)
    by_test false k rest = rest k

pub found_before : (q : List ℕ) (known own : List LaidName) (e : LaidName) → named_in q known ≡ Some e → Some e ≡ named_in q (known ++ own)
found_before q known own e h = sym (named_front known own q e h)

pub found_behind : (q : List ℕ) (known own : List LaidName) → named_in q known ≡ None → named_in q own ≡ named_in q (known ++ own)
found_behind q known own h = sym (named_back q known own h)
