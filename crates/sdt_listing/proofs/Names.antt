-- The registers of a list from one on, with it or without it.
use Rattle.std.proofs.Common.{◌≡◌, ℕ, suc, ◌+◌, ◌-◌, ◌<◌, ◌==◌, Bool, true, false, ◌++◌, refl, arith}
use Rattle.std.proofs.lemmas.Bool.Decides.{nat_tests}
use Rattle.sdt_word.specs.Numbers.{bit, kept, places_from}
use Rattle.sdt_listing.specs.Parts.{named, next}

one_less : (k n : ℕ) → k < n → n - k ≡ suc (n - (k + 1))
one_less k n lt = omega arith

with_bit : (k v m b : ℕ) → bit v k ≡ b → places_from k (suc m) v ≡ kept b k (places_from (k + 1) m v)
with_bit k v m b e = let after : k + 1 ≡ suc k = omega arith in rw (after, e) refl

pub unlisted : (k n v : ℕ) (b : Bool) → k < n → b ≡ (bit v k == 1) → b ≡ false → named (places_from k (n - k) v) ≡ named (places_from (k + 1) (n - (k + 1)) v)
unlisted k n v b lt is off =
    let zero_bit : bit v k ≡ 0 = grind (arith, nat_tests) in
    rw (one_less k n lt, with_bit k v (n - (k + 1)) 0 zero_bit) refl

pub listed : (k n v : ℕ) (b : Bool) → k < n → b ≡ (bit v k == 1) → b ≡ true → named (places_from k (n - k) v) ≡ next k ++ named (places_from (k + 1) (n - (k + 1)) v)
listed k n v b lt is on =
    let one_bit : bit v k ≡ 1 = grind (arith, nat_tests) in
    rw (one_less k n lt, with_bit k v (n - (k + 1)) 1 one_bit) refl
