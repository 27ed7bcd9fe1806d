-- Checks that passed: what each tells, and that reading goes on behind it.
use Rattle.std.proofs.Common.{◌≡◌, ℕ, ◌≤◌, ◌<◌, Bool, true, false, cond, eqb, ltb, Result, Ok, Err, refl, subst}
use Rattle.std.specs.Prelude.{◌↔◌, IfOk}
use Rattle.std.proofs.lemmas.Bool.{ltb-false, le-ltb, lt-ltb, eqb-true, eq-eqb}
use Rattle.sdt_fault.specs.declared.answer.Fault.{Fault}
use Rattle.sdt_fault.specs.declared.refusal.Refusal.{Refusal}
use Rattle.chunk_file.specs.Reading.{Gives}

-- a check that fails where its test is true, and one that fails where it is false
pub fails_if : {A : Type 0} (b : Bool) (d : Refusal) (y : Result A Refusal) (z : A) → cond b (Err d) y ≡ Ok z → (b ≡ false) × (y ≡ Ok z)
fails_if true d y z e = absurd cc
fails_if false d y z e = (refl, e)

pub fails_unless : {A : Type 0} (b : Bool) (d : Refusal) (y : Result A Refusal) (z : A) → cond b y (Err d) ≡ Ok z → (b ≡ true) × (y ≡ Ok z)
fails_unless true d y z e = (refl, e)
fails_unless false d y z e = absurd cc

pub not_less : {A : Type 0} (a b : ℕ) (d : Refusal) (y : Result A Refusal) (z : A) → cond (ltb a b) (Err d) y ≡ Ok z → (b ≤ a) × (y ≡ Ok z)
not_less a b d y z e = let g = fails_if (ltb a b) d y z e in (ltb-false a b g.0, g.1)

pub equal : {A : Type 0} (a b : ℕ) (d : Refusal) (y : Result A Refusal) (z : A) → cond (eqb a b) y (Err d) ≡ Ok z → (a ≡ b) × (y ≡ Ok z)
equal a b d y z e = let g = fails_unless (eqb a b) d y z e in (eqb-true a b g.0, g.1)

pub past_less : {A : Type 0} (a b : ℕ) (x y : Result A Refusal) → b ≤ a → cond (ltb a b) x y ≡ y
past_less a b x y h = rw (le-ltb a b h) refl

pub before_less : {A : Type 0} (a b : ℕ) (x y : Result A Refusal) → a < b → cond (ltb a b) x y ≡ x
before_less a b x y h = rw (lt-ltb a b h) refl

pub past_equal : {A : Type 0} (a b : ℕ) (x y : Result A Refusal) → a ≡ b → cond (eqb a b) x y ≡ x
past_equal a b x y h = rw (eq-eqb a b h) refl

-- ---- a call that gives what reading gives, where a law says what that is

pub found : {A : Type 0} (r : Result A Fault) (read : Result A Refusal) (R : A → Type 0) → ((x : A) → (read ≡ Ok x) ↔ R x) → Gives r read → IfOk r R
found (Ok x) read R law h = (law x).0 h
found (Err e) read R law h = tt

pub only : {A : Type 0} (r : Result A Fault) (read : Result A Refusal) (R : A → Type 0) → ((x : A) → (read ≡ Ok x) ↔ R x) → Gives r read → (x : A) → R x → Gives r (Ok x)
only {A} r read R law h x holds = let P : Result A Refusal → Type 0 = λ y. Gives r y in subst P ((law x).1 holds) h
