-- The first item of a list for which a test holds that decides.
use Rattle.std.proofs.Common.{◌≡◌, ◌⊎◌, Bool, true, false, not, ◌||◌, cond, List, [], ◌∷◌, find, Option, Some, None, MatchOption, Decides, refl, sym, subst, ◌∙◌}
use mathlib.Core.Bool.{true≢false}
use mathlib.Core.Logic.{⊎_elim}

abbrev pub Has : {X : Type 0} → X → List X → Type 0
Has x [] = ⊥
Has x (y ∷ ys) = (x ≡ y) ⊎ Has x ys

module _ {X : Type 0} (p : X → Bool) (P : X → Type 0) (d : (x : X) → Decides (p x) (P x)) where
  behind : (x : X) (xs : List X) → p x ≡ false → (o : Option X) → MatchOption o ((y : X) → Has y xs → P y → ⊥) P → MatchOption o ((y : X) → Has y (x ∷ xs) → P y → ⊥) P
  behind x xs e None h = λ y there holds. ⊎_elim (λ same. true≢false (sym ((d x).1 (subst P same holds)) ∙ e)) (λ rest. h y rest holds) there
  behind x xs e (Some y) h = h

  tested : (x : X) (xs : List X) → MatchOption (find p xs) ((y : X) → Has y xs → P y → ⊥) P → (t : Bool) → p x ≡ t → MatchOption (cond t (Some x) (find p xs)) ((y : X) → Has y (x ∷ xs) → P y → ⊥) P
  tested x xs h true e = (d x).0 e
  tested x xs h false e = behind x xs e (find p xs) h

  pub first_holds : (xs : List X) → MatchOption (find p xs) ((y : X) → Has y xs → P y → ⊥) P
  first_holds [] = λ y there holds. there
  first_holds (x ∷ xs) = tested x xs (first_holds xs) (p x) refl

-- a test of an implication
module _ {P Q : Type 0} where
  pub Decides-implies : (x y : Bool) → Decides x P → Decides y Q → Decides (not x || y) (P → Q)
  Decides-implies true y d k = (λ e h. k.0 e, λ f. k.1 (f (d.0 refl)))
  Decides-implies false y d k = (λ e h. absurd (true≢false (sym (d.1 h))), λ f. refl)
