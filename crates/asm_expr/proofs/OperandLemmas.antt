-- Operands, token by token.
use Rattle.std.proofs.Common.{◌≡◌, ℕ, suc, ◌<◌, ◌≤◌, ◌-◌, ◌+◌, List, [], ◌∷◌, ◌++◌, length, take, drop, get_or, Bool, true, false, refl, sym, ◌∙◌, ap, arith, cond, append_assoc, drop-cons, add-one, ◌==◌}
use Rattle.std.specs.Prelude.{◌&&◌, codes}
use Rattle.std.proofs.Math.Seq.{take-suc}
use Rattle.std.proofs.lemmas.Bool.{cond-false, and_right}
use Rattle.asm_model.specs.declared.tokens.Token.{Token}
use Rattle.asm_model.specs.Forms.{same}
use Rattle.asm_model.specs.Parts.{piece}
use Rattle.asm_model.specs.Operands.{operands_at, lengthened, depth_behind, opens, closes}

-- nothing at the front
front_nothing : (t : Token) (os : List (List Token)) → lengthened [] (lengthened (t ∷ []) os) ≡ lengthened (t ∷ []) os
front_nothing t [] = refl
front_nothing t (o ∷ os) = refl

pub begins : (text : List ℕ) (d : ℕ) (ts : List Token) → operands_at text d ts ≡ lengthened [] (operands_at text d ts)
begins text d [] = refl
begins text d (t ∷ ts) = by_test (d == 0 && same (piece text t) (codes ","))
  where
    by_test : (b : Bool) → cond b ([] ∷ operands_at text 0 ts) (lengthened (t ∷ []) (operands_at text (depth_behind d (piece text t)) ts))
        ≡ lengthened [] (cond b ([] ∷ operands_at text 0 ts) (lengthened (t ∷ []) (operands_at text (depth_behind d (piece text t)) ts)))
    by_test true = refl
    by_test false = sym (front_nothing t (operands_at text (depth_behind d (piece text t)) ts))

-- a front is lengthened
grows : (front : List Token) (t : Token) (os : List (List Token)) → lengthened front (lengthened (t ∷ []) os) ≡ lengthened (front ++ t ∷ []) os
grows front t [] = refl
grows front t (o ∷ os) = ap (λ (x : List Token). x ∷ os) (sym (append_assoc front (t ∷ []) o))

pub comma_step : (text : List ℕ) (all : List Token) (d e i : ℕ) (z : Token) (w : List ℕ) (b : Bool) → i < length all → w ≡ piece text (get_or all i z)
    → b ≡ (d == 0 && same w (codes ",")) → b ≡ false → e ≡ depth_behind d w → operands_at text 0 all ≡ lengthened (take i all) (operands_at text d (drop i all))
    → operands_at text 0 all ≡ lengthened (take (i + 1) all) (operands_at text e (drop (i + 1) all))
comma_step text all d e i z w b h word test no_ deep inv =
    let t = get_or all i z in
    let cut : drop i all ≡ t ∷ drop (suc i) all = drop-cons all i z h in
    let front : take (suc i) all ≡ take i all ++ t ∷ [] = take-suc all i z h in
    let kept : (d == 0 && same (piece text t) (codes ",")) ≡ false = rw word at (sym test ∙ no_) in
    rw (add-one, front, deep, word)
    (inv ∙ ap (λ x. lengthened (take i all) (operands_at text d x)) cut
    ∙ ap (lengthened (take i all)) (cond-false (d == 0 && same (piece text t) (codes ",")) _ _ kept)
    ∙ grows (take i all) t (operands_at text (depth_behind d (piece text t)) (drop (suc i) all)))

pub one_deeper : (d : ℕ) (w : List ℕ) → depth_behind d w ≤ d + 1
unfolding depth_behind
one_deeper d w = by_tests (opens w) (closes w)
  where
    by_tests : (a b : Bool) → cond a (d + 1) (cond b (d - 1) d) ≤ d + 1
    by_tests true b = omega arith
    by_tests false true = omega arith
    by_tests false false = omega arith

-- a word of two bytes or more is no sign
pub long_sign : (word : List ℕ) (sign : ℕ) → 2 ≤ length word → same word (sign ∷ []) ≡ false
long_sign [] sign h = absurd (omega arith)
long_sign (c ∷ []) sign h = absurd (omega arith)
long_sign (c ∷ d ∷ ds) sign h = and_right (c == sign) false refl
