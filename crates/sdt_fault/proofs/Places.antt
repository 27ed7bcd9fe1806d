-- The step of the recursion over hexadecimal places.
use Rattle.std.proofs.Common.{◌≡◌, ℕ, zero, suc, ◌≢◌, ◌-◌, ◌/◌, ◌%◌, ◌++◌, ◌∷◌, [], true, refl, arith}
use Rattle.std.specs.Fmt.{digit_glyph}
use Rattle.sdt_fault.specs.Digits.{hexadecimal_places}

pub places_step : (k n : ℕ) → k ≢ 0 → hexadecimal_places k n ≡ hexadecimal_places (k - 1) (n / 16) ++ (digit_glyph true (n % 16) ∷ [])
places_step zero n h = absurd (h refl)
places_step (suc k) n h = let e : suc k - 1 ≡ k = omega arith in rw e refl
