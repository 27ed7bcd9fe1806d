-- A map of names after one more name is noted.
use Rattle.std.proofs.Common.{◌≡◌, ℕ, Bool, true, false, cond, List, Option, Some, None, refl, sym, ap, ◌∙◌}
use Rattle.std.specs.Str.{bytes_eq}
use Rattle.std.proofs.lemmas.Slice.Eq.{bytes_eq-Decides}
use Rattle.aof_object.specs.Index.{Numbers, number_in, or_number}

-- in n the name has the number, and others have what they have in m
abbrev pub Given : Numbers → Numbers → List ℕ → ℕ → Type 0
Given m n name number = (q : List ℕ) → number_in n q ≡ cond (bytes_eq name q) (Some number) (number_in m q)

new_or_same : (name q : List ℕ) (number : ℕ) (b : Bool) (o : Option ℕ) → bytes_eq name q ≡ b → (b ≡ true → o ≡ None) → cond b (Some number) o ≡ or_number o name number q
new_or_same name q number true None e h = rw e refl
new_or_same name q number false None e h = rw e refl
new_or_same name q number true (Some k) e h = absurd (let bad : Some k ≡ None = h refl in cc)
new_or_same name q number false (Some k) e h = refl

pub noted : (m n : Numbers) (name : List ℕ) (number : ℕ) → None ≡ number_in m name → Given m n name number → (q : List ℕ) → number_in n q ≡ or_number (number_in m q) name number q
noted m n name number fresh given q =
    given q ∙ new_or_same name q number (bytes_eq name q) (number_in m q) refl (λ t. let same : name ≡ q = (bytes_eq-Decides name q).0 t in ap (number_in m) (sym same) ∙ sym fresh)

first_or_same : (name q : List ℕ) (number first : ℕ) (b : Bool) (o : Option ℕ) → bytes_eq name q ≡ b → (b ≡ true → o ≡ Some first)
    → cond b (Some first) (cond b (Some number) o) ≡ or_number o name number q
first_or_same name q number first true (Some k) e h = sym (h refl)
first_or_same name q number first true None e h = absurd (let bad : None ≡ Some first = h refl in cc)
first_or_same name q number first false (Some k) e h = refl
first_or_same name q number first false None e h = rw e refl

-- a name that had a number gets it back
pub restored : (m n p : Numbers) (name : List ℕ) (number first : ℕ) → Some first ≡ number_in m name → Given m n name number → Given n p name first
    → (q : List ℕ) → number_in p q ≡ or_number (number_in m q) name number q
restored m n p name number first had given back q =
    back q ∙ ap (λ (o : Option ℕ). cond (bytes_eq name q) (Some first) o) (given q)
    ∙ first_or_same name q number first (bytes_eq name q) (number_in m q) refl (λ t. let same : name ≡ q = (bytes_eq-Decides name q).0 t in ap (number_in m) (sym same) ∙ sym had)
