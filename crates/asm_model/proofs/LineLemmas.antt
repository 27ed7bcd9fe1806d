-- Entries in lists of names, and operands that are known.
use Rattle.std.proofs.Common.{◌≡◌, ℕ, List, [], ◌∷◌, ◌++◌, Bool, true, false, cond, refl, ◌∙◌, ap, Some}
use Rattle.std.specs.Prelude.{Result, Ok, Err}
use Rattle.sdt_fault.specs.declared.kinds.LineKind.{LineKind}
use Rattle.asm_model.specs.declared.exprs.UnaryOp.{UnaryOp}
use Rattle.asm_model.specs.declared.exprs.UnaryOp.TheVariants as unary
use Rattle.asm_model.specs.declared.values.Value.{Value}
use Rattle.asm_model.specs.declared.names.LaidName.{LaidName}
use Rattle.asm_model.specs.AtLine.{HoldsEach}
use Rattle.asm_model.specs.Forms.{same}
use Rattle.asm_model.specs.Meaning.{named_in, as_number, unary_of, Known, applied}
use Rattle.asm_model.specs.Readings.{and_then}

-- ---- names in lists

pub named_front : (xs ys : List LaidName) (q : List ℕ) (e : LaidName) → named_in q xs ≡ Some e → named_in q (xs ++ ys) ≡ Some e
named_front [] ys q e h = absurd (cc)
named_front (n ∷ ns) ys q e h = by_test (same n.name q) (named_front ns ys q e) h
  where
    by_test : (b : Bool) → (named_in q ns ≡ Some e → named_in q (ns ++ ys) ≡ Some e)
        → cond b (Some n) (named_in q ns) ≡ Some e → cond b (Some n) (named_in q (ns ++ ys)) ≡ Some e
    by_test true rest g = g
    by_test false rest g = rest g

pub each_more : (xs ys ns : List LaidName) → HoldsEach xs ns → HoldsEach (xs ++ ys) ns
each_more xs ys [] h = tt
each_more xs ys (n ∷ ns) h = (named_front xs ys n.name n h.0, each_more xs ys ns h.1)

pub each_append : (ys ns ms : List LaidName) → HoldsEach ys ns → HoldsEach ys ms → HoldsEach ys (ns ++ ms)
each_append ys [] ms h k = k
each_append ys (n ∷ ns) ms h k = (h.0, each_append ys ns ms h.1 k)

-- ---- values

pub number_more : (a b : Result ℕ LineKind) (v : Value) → ((n : ℕ) → a ≡ Ok n → b ≡ Ok n) → as_number a ≡ Ok v → as_number b ≡ Ok v
number_more (Ok n) b v more h = ap as_number (more n refl) ∙ h
number_more (Err k) b v more h = absurd (cc)

pub applied_known : (op : UnaryOp) (x : Result Value LineKind) → applied op (Known x) ≡ and_then x (unary_of op)
applied_known unary.Size x = refl
applied_known unary.Defined x = refl
applied_known op x = refl
