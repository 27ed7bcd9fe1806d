-- Banks that become protected one after another.
use Rattle.std.proofs.Common.{◌≡◌, ℕ, zero, suc, ◌+◌, ◌<◌, List, [], ◌∷◌, length, get_or, set, map, refl, ap, arith}
use Rattle.sdt_word.specs.declared.ranges.Range32.{Range32}
use Rattle.arm7_bus.specs.declared.memory.Bank.{Bank}
use Rattle.arm7_bus.specs.Protection.{protected_bank}

-- the first i are done
unfoldable pub protected_below : Range32 → ℕ → List Bank → List Bank
protected_below r zero bs = bs
protected_below r (suc i) [] = []
protected_below r (suc i) (b ∷ bs) = protected_bank r b ∷ protected_below r i bs

pub protected_start : (r : Range32) (bs : List Bank) → protected_below r 0 bs ≡ bs
unfolding protected_below
protected_start r bs = refl

step : (r : Range32) (bs : List Bank) (i : ℕ) (d : Bank) → i < length bs → d ≡ get_or (protected_below r i bs) i d
    → set (protected_below r i bs) i (protected_bank r d) ≡ protected_below r (suc i) bs
unfolding protected_below
step r [] i d lt e = absurd (omega arith)
step r (b ∷ bs) zero d lt e = ap (λ (x : Bank). protected_bank r x ∷ bs) e
step r (b ∷ bs) (suc i) d lt e = ap (λ (xs : List Bank). protected_bank r b ∷ xs) (step r bs i d (omega arith) e)

pub protected_next : (r : Range32) (bs : List Bank) (i : ℕ) (d : Bank) → i < length bs → d ≡ get_or (protected_below r i bs) i d
    → set (protected_below r i bs) i (protected_bank r d) ≡ protected_below r (i + 1) bs
protected_next r bs i d lt e = let n : i + 1 ≡ suc i = omega arith in rw n (step r bs i d lt e)

all : (r : Range32) (bs : List Bank) → protected_below r (length bs) bs ≡ map (protected_bank r) bs
unfolding protected_below
all r [] = refl
all r (b ∷ bs) = ap (λ (xs : List Bank). protected_bank r b ∷ xs) (all r bs)

pub protected_all : (r : Range32) (bs : List Bank) (n : ℕ) → n ≡ length bs → protected_below r n bs ≡ map (protected_bank r) bs
protected_all r bs n e = rw e (all r bs)
