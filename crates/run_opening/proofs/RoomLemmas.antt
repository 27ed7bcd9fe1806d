-- What is needed and is no memory, and the least of three.
use Rattle.std.proofs.Common.{◌≡◌, ℕ, ◌+◌, ◌-◌, ◌^◌, ◌<◌, ◌≤◌, Bool, true, false, ◌||◌, not, List, [], ◌∷◌, length, take, Option, None, Some, refl, sym, ap, ◌∙◌, subst, arith, le-leb}
use Rattle.std.specs.Prelude.{◌&&◌, nat_le}
use Rattle.std.proofs.lemmas.Bool.Decides.{nat_tests}
use Rattle.arm7_bus.specs.declared.memory.Bank.{Bank}
use Rattle.arm7_bus.specs.Seats.{has_access}
use Rattle.arm7_bus.specs.States.{bank_has}
use Rattle.arm7_bus.specs.Meets.{IsFound, lesser_of}
use Rattle.arm7_bus.proofs.MeetLemmas.{either}
use Rattle.run_opening.specs.declared.image.Need.{Need}
use Rattle.run_opening.specs.Banks.{lacks}

pub three_found : (p q r : ℕ → Bool) (o u w x y : Option ℕ) → IsFound p o → IsFound q u → IsFound r w → x ≡ lesser_of o u → y ≡ lesser_of x w
    → IsFound (λ a. p a || q a || r a) y
three_found p q r o u w x y f g h e k =
    subst (λ (z : Option ℕ). IsFound (λ a. p a || q a || r a) z) (sym (k ∙ ap (λ (z : Option ℕ). lesser_of z w) e))
    (either (λ a. p a || q a) r (lesser_of o u) w (either p q o u f g) h)

lacks_within : (bs : List Bank) (n : Need) (x : ℕ) → n.base + n.size ≤ 2 ^ 32 → lacks bs n x ≡ (has_access n.base n.size x 1 && not (bank_has bs x 1))
lacks_within bs n x le = rw (le-leb (n.base + n.size) (2 ^ 32) le) refl

in_need : (base size a : ℕ) → base ≤ a → a < base + size → has_access base size a 1 ≡ true
in_need base size a le lt = grind (arith, nat_tests)

from_base : (base size a : ℕ) (t : Bool) → (has_access base size a 1 && t) ≡ true → base ≤ a
from_base base size a t e = grind (arith, nat_tests)

below_end : (base size a : ℕ) (t : Bool) → (has_access base size a 1 && t) ≡ true → a < base + size
below_end base size a t e = grind (arith, nat_tests)

not_true : (x t : Bool) → (x && not t) ≡ true → t ≡ true → ⊥
not_true true true e f = absurd (cc)
not_true false true e f = absurd (cc)
not_true x false e f = absurd (cc)

first : (base size a b : ℕ) (t : Bool) → (base ≤ b → b < a → t ≡ true) → (has_access base size b 1 && not t) ≡ true → a ≤ b
first base size a b t here e = go (nat_le a b) refl
  where
    go : (x : Bool) → nat_le a b ≡ x → a ≤ b
    go true l = grind (arith, nat_tests)
    go false l = absurd (not_true (has_access base size b 1) t e (here (from_base base size b (not t) e) (grind (arith, nat_tests))))

pub lack_some : (bs : List Bank) (n : Need) (a : ℕ) → n.base + n.size ≤ 2 ^ 32 → n.base ≤ a → a < n.base + n.size
    → ((x : ℕ) → n.base ≤ x → x < a → bank_has bs x 1 ≡ true) → bank_has bs a 1 ≡ false → IsFound (λ x. lacks bs n x) (Some a)
lack_some bs n a room le lt here none = record {
  passes = lacks_within bs n a room ∙ rw (in_need n.base n.size a le lt, none) refl;
  least = λ b e. first n.base n.size a b (bank_has bs b 1) (here b) (sym (lacks_within bs n b room) ∙ e);
}

none_left : (base size a : ℕ) (t : Bool) → (base ≤ a → a < base + size → t ≡ true) → (has_access base size a 1 && not t) ≡ false
none_left base size a t here = go (has_access base size a 1 && not t) refl
  where
    go : (x : Bool) → (has_access base size a 1 && not t) ≡ x → (has_access base size a 1 && not t) ≡ false
    go true e = absurd (not_true (has_access base size a 1) t e (here (from_base base size a (not t) e) (below_end base size a (not t) e)))
    go false e = e

pub lack_none : (bs : List Bank) (n : Need) (a : ℕ) → n.base + n.size ≤ 2 ^ 32 → n.base + n.size ≤ a
    → ((x : ℕ) → n.base ≤ x → x < a → bank_has bs x 1 ≡ true) → IsFound (λ x. lacks bs n x) None
lack_none bs n a room le here = record {
  none = λ x. lacks_within bs n x room ∙ none_left n.base n.size x (bank_has bs x 1) (λ p q. here x p (omega (arith, q)));
}

-- the walk goes on behind a bank
pub walked : (bs : List Bank) (base a e : ℕ) → ((x : ℕ) → base ≤ x → x < a → bank_has bs x 1 ≡ true) → ((x : ℕ) → a ≤ x → x < e → bank_has bs x 1 ≡ true)
    → (x : ℕ) → base ≤ x → x < e → bank_has bs x 1 ≡ true
walked bs base a e before next x le lt = go (nat_le a x) refl
  where
    go : (t : Bool) → nat_le a x ≡ t → bank_has bs x 1 ≡ true
    go true l = next x (grind (arith, nat_tests)) lt
    go false l = before x le (grind (arith, nat_tests))

pub take_all : {A : Type 0} (xs : List A) → take (length xs) xs ≡ xs
take_all [] = refl
take_all {A} (x ∷ xs) = ap (λ (ys : List A). x ∷ ys) (take_all xs)
