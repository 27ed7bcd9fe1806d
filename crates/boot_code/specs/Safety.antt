-- Where a step's accesses lie, and which words its stores leave alone. This project's.
use Rattle.std.specs.Prelude.{ℕ, ◌+◌, ◌<◌, ◌≤◌, ◌⊎◌, List, [], ◌∷◌}
use Rattle.sdt_word.specs.Codes.{bytes_in}
use Rattle.arm7_model.specs.Accesses.{Access, Fetch, Load, Store}

-- each of the n addresses from a on is allowed
abbrev pub Lies : (ℕ → Type 0) → ℕ → ℕ → Type 0
Lies Allowed a n = (k : ℕ) → k < n → Allowed (a + k)

-- an access lies in the allowed addresses, and a store touches neither the word being executed, at
-- address f, nor the next two
abbrev pub IsSafeAccess : (ℕ → Type 0) → ℕ → Access → Type 0
IsSafeAccess Allowed f (Fetch a w) = Lies Allowed a (bytes_in w)
IsSafeAccess Allowed f (Load a w) = Lies Allowed a (bytes_in w)
IsSafeAccess Allowed f (Store a w v) = Lies Allowed a (bytes_in w) × ((a + bytes_in w ≤ f) ⊎ (f + 12 ≤ a))

abbrev pub AreSafe : (ℕ → Type 0) → ℕ → List Access → Type 0
AreSafe Allowed f [] = Unit {0}
AreSafe Allowed f (x ∷ xs) = IsSafeAccess Allowed f x × AreSafe Allowed f xs

-- the accesses of one step, of which the first is the fetch of the word being executed
abbrev pub IsSafe : (ℕ → Type 0) → List Access → Type 0
IsSafe Allowed [] = Unit {0}
IsSafe Allowed (Fetch f w ∷ xs) = AreSafe Allowed f (Fetch f w ∷ xs)
IsSafe Allowed (Load a w ∷ xs) = ⊥
IsSafe Allowed (Store a w v ∷ xs) = ⊥
