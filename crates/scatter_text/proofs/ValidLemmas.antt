-- What is read is valid.
use Rattle.std.proofs.Common.{◌≡◌, ◌∙◌, ℕ, List, [], ◌∷◌, ◌++◌, length, Bool, true, false, cond, ◌||◌, nat_lt, ◌%◌, ◌^◌, Option, Some, None, refl, ap, sym, subst, append_assoc, drop, arith, eqb-true, ltb-true}
use Rattle.std.specs.Prelude.{option_map, bytes_eq, map, ◌==◌}
use Rattle.std.specs.List.{AllByRecursion, flat_map, list_any}
use Rattle.std.proofs.lemmas.Bool.{ne_eqb}
use Rattle.std.proofs.lemmas.Slice.Eq.{bytes_eq-Decides}
use Rattle.sdt_fault.specs.declared.kinds.ScatterKind.TheVariants as kind
use Rattle.place_model.specs.declared.scatter.ScatterBase.{ScatterBase}
use Rattle.place_model.specs.declared.scatter.ScatterBase.TheVariants.{At, Plus}
use Rattle.place_model.specs.declared.scatter.ScatterLoad.{ScatterLoad}
use Rattle.base_lemmas.proofs.BaseLemmas.{same, neither, all_append}
use Rattle.scatter_text.specs.Words.{number_of, base_number, base_of}
use Rattle.scatter_text.specs.Parts.{first_is}
use Rattle.scatter_text.specs.Reading.{number_flaw, flaw_in}
use Rattle.scatter_text.specs.Validity.{IsWhole, IsWholeBase, AreDistinct}

-- ---- numbers

pub flawless : (n : ℕ) → number_flaw n ≡ None → IsWhole n
flawless n h = by_size (nat_lt n (2 ^ 32)) (n % 4 == 0) refl refl h where
  by_size : (a b : Bool) → nat_lt n (2 ^ 32) ≡ a → (n % 4 == 0) ≡ b → cond a (cond b None (Some kind.Unaligned)) (Some kind.Number) ≡ None → IsWhole n
  by_size true true e f k = (ltb-true n (2 ^ 32) e, eqb-true (n % 4) 0 f)
  by_size true false e f k = absurd (cc)
  by_size false b e f k = absurd (cc)

pub whole_number : (t : List ℕ) (n : ℕ) → number_of t ≡ Some n → flaw_in (number_of t) ≡ None → IsWhole n
whole_number t n e h = flawless n (subst (λ o. flaw_in o ≡ None) e h)

pub whole_base : (t : List ℕ) (b : ScatterBase) → base_of t ≡ Some b → flaw_in (base_number t) ≡ None → IsWholeBase b
whole_base t b = by_sign (first_is 43 t) (number_of t) where
  mapped : (f : ℕ → ScatterBase) (o : Option ℕ) → ((n : ℕ) → IsWhole n → IsWholeBase (f n)) → option_map f o ≡ Some b → flaw_in o ≡ None → IsWholeBase b
  mapped f None g e h = absurd (cc)
  mapped f (Some n) g e h = subst IsWholeBase (same (f n) b e) (g n (flawless n h))

  by_sign : (s : Bool) (o : Option ℕ) → cond s (option_map Plus (number_of (drop 1 t))) (option_map At o) ≡ Some b → flaw_in (cond s (number_of (drop 1 t)) o) ≡ None → IsWholeBase b
  by_sign true o e h = mapped (λ n. Plus n) (number_of (drop 1 t)) (λ n w. w) e h
  by_sign false o e h = mapped (λ n. At n) o (λ n w. w) e h

-- ---- names

pub apart_from : (names : List (List ℕ)) (t : List ℕ) → list_any (λ name. bytes_eq name t) names ≡ false → AllByRecursion (λ name. name ≡ t → ⊥) names
apart_from [] t h = tt
apart_from (name ∷ names) t h =
    let w = neither (bytes_eq name t) (list_any (λ name. bytes_eq name t) names) h in
    ((λ e. let k = (bytes_eq-Decides name t).1 e in absurd (cc)), apart_from names t w.1)

-- one more name, which no other is
pub distinct_more : (names : List (List ℕ)) (t : List ℕ) → AreDistinct names → AllByRecursion (λ name. name ≡ t → ⊥) names → AreDistinct (names ++ t ∷ [])
distinct_more [] t d a = (tt, tt)
distinct_more (name ∷ names) t d a = (all_append (λ other. name ≡ other → ⊥) names (t ∷ []) d.0 (a.0, tt), distinct_more names t d.1 a.1)

pub any_name : (loads : List ScatterLoad) (t : List ℕ) → list_any (λ l. bytes_eq l.name t) loads ≡ list_any (λ name. bytes_eq name t) (map (λ l. l.name) loads)
any_name [] t = refl
any_name (l ∷ loads) t = ap (λ b. bytes_eq l.name t || b) (any_name loads t)

pub map_append : {X Y : Type 0} (f : X → Y) (xs ys : List X) → map f (xs ++ ys) ≡ map f xs ++ map f ys
map_append f [] ys = refl
map_append f (x ∷ xs) ys = ap (λ zs. f x ∷ zs) (map_append f xs ys)

pub flat_append : {X Y : Type 0} (f : X → List Y) (xs ys : List X) → flat_map f (xs ++ ys) ≡ flat_map f xs ++ flat_map f ys
flat_append f [] ys = refl
flat_append f (x ∷ xs) ys = ap (λ zs. f x ++ zs) (flat_append f xs ys) ∙ sym (append_assoc (f x) (flat_map f xs) (flat_map f ys))

pub nonempty : {X : Type 0} (x : X) (xs : List X) → (length (x ∷ xs) == 0) ≡ false
nonempty x xs = ne_eqb (length (x ∷ xs)) 0 (λ e. absurd (let bad : length (x ∷ xs) ≡ 0 = e in omega arith))
