-- The least address that passes one of two tests.
use Rattle.std.proofs.Common.{◌≡◌, ℕ, ◌+◌, Bool, true, false, ◌||◌, ◌⊎◌, inl, inr, Option, None, Some, refl, sym, ◌∙◌, subst, arith}
use Rattle.std.specs.Prelude.{◌&&◌, min, nat_le}
use Rattle.std.specs.Option.{MatchOption}
use Rattle.sdt_word.specs.declared.ranges.Range32.{Range32}
use Rattle.sdt_word.specs.Ranges.{Covers, AreApart, IsLeastShared}
use Rattle.arm7_bus.specs.Seats.{has_access}
use Rattle.arm7_bus.specs.Meets.{IsLeast, IsFound, lesser_of}

or_left : (x y : Bool) → (x || y) ≡ true → y ≡ false → x ≡ true
or_left true y e f = refl
or_left false true e f = absurd (cc)
or_left false false e f = e

pub or_true : (x : Bool) → (x || true) ≡ true
or_true true = refl
or_true false = refl

or_cases : (x y : Bool) → (x || y) ≡ true → (x ≡ true) ⊎ (y ≡ true)
or_cases true y e = inl refl
or_cases false y e = inr e

pub and_left : (x y : Bool) → (x && y) ≡ true → x ≡ true
and_left true y e = refl
and_left false y e = e

pub and_right : (x y : Bool) → (x && y) ≡ true → y ≡ true
and_right true y e = e
and_right false y e = absurd (cc)

and_false : (x y : Bool) → (x ≡ true → y ≡ true → ⊥) → (x && y) ≡ false
and_false true true f = absurd (f refl refl)
and_false true false f = refl
and_false false y f = refl

min_either : (x y : ℕ) → (min x y ≡ x) ⊎ (min x y ≡ y)
min_either x y = elim (nat_le x y) as (λ b. nat_le x y ≡ b → (min x y ≡ x) ⊎ (min x y ≡ y)) [ true ↦ λ e. inl (grind arith) | false ↦ λ e. inr (grind arith) ] refl

pub either : (p q : ℕ → Bool) (o u : Option ℕ) → IsFound p o → IsFound q u → IsFound (λ a. p a || q a) (lesser_of o u)
either p q None None f g = record { none = λ a. rw (f.none a, g.none a) refl }
either p q None (Some y) f g = record {
  passes = rw (f.none y, g.passes) refl;
  least = λ b h. g.least b (rw (f.none b) at h);
}
either p q (Some x) None f g = record {
  passes = rw (f.passes) refl;
  least = λ b h. f.least b (or_left (p b) (q b) h (g.none b));
}
either p q (Some x) (Some y) f g = record {
  passes = elim (min_either x y) [
    | inl e ↦ rw (e, f.passes) refl
    | inr e ↦ rw (e, g.passes) (or_true (p y))
  ];
  least = λ b h. elim (or_cases (p b) (q b) h) [
    | inl e ↦ (let k = f.least b e in omega arith)
    | inr e ↦ (let k = g.least b e in omega arith)
  ];
}

covers : (r : Range32) (a : ℕ) → has_access r.base r.size a 1 ≡ true → Covers r a
covers r a e =
    let x = and_left (nat_le r.base a) (nat_le (a + 1) (r.base + r.size)) e in
    let y = and_right (nat_le r.base a) (nat_le (a + 1) (r.base + r.size)) e in
    record { from_base = grind arith; below_end = grind arith }

covered : (r : Range32) (a : ℕ) → Covers r a → has_access r.base r.size a 1 ≡ true
covered r a c = let x = c.from_base in let y = c.below_end in grind arith

-- what two ranges share, as a test
pub meets_found : (r s : Range32) (o : Option ℕ) → MatchOption o (AreApart r s) (λ a. IsLeastShared r s a)
    → IsFound (λ a. has_access r.base r.size a 1 && has_access s.base s.size a 1) o
meets_found r s None f = record {
  none = λ a. and_false (has_access r.base r.size a 1) (has_access s.base s.size a 1) (λ h k. f a (covers r a h) (covers s a k));
}
meets_found r s (Some x) f = record {
  passes = rw (covered r x f.in_first, covered s x f.in_second) refl;
  least = λ b e. f.least b
      (covers r b (and_left (has_access r.base r.size b 1) (has_access s.base s.size b 1) e))
      (covers s b (and_right (has_access r.base r.size b 1) (has_access s.base s.size b 1) e));
}

-- where the lesser of two is found
pub either_found : (p q : ℕ → Bool) (o u w : Option ℕ) (x : ℕ) → IsFound p o → IsFound q u → w ≡ lesser_of o u → w ≡ Some x
    → IsLeast (λ a. p a || q a) x
either_found p q o u w x f g e h =
    let s : lesser_of o u ≡ Some x = sym e ∙ h in
    subst (λ (z : Option ℕ). IsFound (λ a. p a || q a) z) s (either p q o u f g)
