-- Tests that both pass, and tests over the bytes of an access, one step at a time.
use Rattle.std.proofs.Common.{◌≡◌, ℕ, suc, ◌+◌, ◌-◌, ◌<◌, Bool, true, false, refl, ap, arith, List}
use Rattle.std.specs.Prelude.{◌&&◌}
use Rattle.arm7_bus.specs.declared.memory.Bank.{Bank}
use Rattle.arm7_bus.specs.Touches.{pages_touched}
use Rattle.arm7_model.specs.Memory.{any_from}

-- ---- two tests

pub first : (x y : Bool) → (x && y) ≡ true → x ≡ true
first true y e = refl
first false y e = e

pub second : (x y : Bool) → (x && y) ≡ true → y ≡ true
second true y e = e
second false y e = absurd (cc)

-- ---- tests over bytes

-- a byte passes, so one of those from it on does
pub any_here : (p : ℕ → Bool) (x end : ℕ) → x < end → p x ≡ true → any_from p x (end - x) ≡ true
any_here p x end lt h =
    let more : end - x ≡ suc (end - (x + 1)) = omega arith in
    rw (more, h) refl

-- a byte doesn't, so the others decide
pub any_there : (p : ℕ → Bool) (x end : ℕ) → x < end → p x ≡ false → any_from p x (end - x) ≡ any_from p (x + 1) (end - (x + 1))
any_there p x end lt h =
    let more : end - x ≡ suc (end - (x + 1)) = omega arith in
    let next : suc x ≡ x + 1 = omega arith in
    rw (more, h) (ap (λ (y : ℕ). any_from p y (end - (x + 1))) next)

-- one more page
pub touched_none : (banks : List Bank) → pages_touched banks 0 ≡ 0
unfolding pages_touched
touched_none banks = refl
