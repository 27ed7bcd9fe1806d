-- A table with an entry for each byte.
use Rattle.std.proofs.Common.{◌≡◌, ℕ, zero, suc, ◌+◌, ◌<◌, List, [], ◌∷◌, length, Bool, true, false, refl, arith, ap, ◌∙◌, slice_index_or}
use Rattle.std.specs.Prelude.{◌==◌, ◌&&◌}
use Rattle.std.proofs.lemmas.Bool.{eqb-true}

-- whether the entries from a byte on are what a function gives
abbrev pub agrees : (ℕ → ℕ) → ℕ → List ℕ → Bool
agrees f i [] = true
agrees f i (x ∷ xs) = x == f i && agrees f (suc i) xs

both : (a b : Bool) → (a && b) ≡ true → (a ≡ true) × (b ≡ true)
both true true e = (refl, refl)
both true false e = absurd (cc)
both false b e = absurd (cc)

from_there : (f : ℕ → ℕ) (table : List ℕ) (i c : ℕ) → agrees f i table ≡ true → c < length table → slice_index_or table c 0 ≡ f (i + c)
from_there f [] i c e h = absurd (omega arith)
from_there f (x ∷ xs) i zero e h = let p = both (x == f i) (agrees f (suc i) xs) e in let place : i + zero ≡ i = omega arith in rw place (eqb-true x (f i) p.0)
from_there f (x ∷ xs) i (suc c) e h =
    let p = both (x == f i) (agrees f (suc i) xs) e in
    let place : suc i + c ≡ i + suc c = omega arith in
    from_there f xs (suc i) c p.1 (omega arith) ∙ ap f place

pub entry_is : (f : ℕ → ℕ) (table : List ℕ) (c : ℕ) → agrees f 0 table ≡ true → c < length table → slice_index_or table c 0 ≡ f c
entry_is f table c e h = let place : 0 + c ≡ c = omega arith in from_there f table 0 c e h ∙ ap f place
