-- Memory as the ARM7TDMI sees it: the byte at each address, and which addresses are memory, devices or
-- read-only. The board never changes, and no step makes memory or takes it away. This project's.
use Rattle.std.specs.Prelude.{ℕ, zero, suc, ◌==◌, Bool, true, false, not, ◌&&◌, ◌||◌, if◌then◌else◌, List, [], ◌∷◌}

-- the byte at each address
abbrev pub Bytes : Type 0
Bytes = ℕ → ℕ

-- the memory m with these bytes from address a on
abbrev pub store : Bytes → ℕ → List ℕ → Bytes
store m a [] x = m x
store m a (b ∷ bs) x = if x == a then b else store m (suc a) bs x

-- which addresses are memory, which are a device's, and which are read-only
pub record Board : Type 0 where
  pub memory : ℕ → Bool
  pub device : ℕ → Bool
  pub read_only : ℕ → Bool

-- each of the n addresses from a on is one of p, and one of them is
abbrev pub all_from : (ℕ → Bool) → ℕ → ℕ → Bool
all_from p a zero = true
all_from p a (suc n) = p a && all_from p (suc a) n

abbrev pub any_from : (ℕ → Bool) → ℕ → ℕ → Bool
any_from p a zero = false
any_from p a (suc n) = p a || any_from p (suc a) n

-- the whole access lies in memory
unfoldable pub in_memory : Board → ℕ → ℕ → Bool
in_memory board a n = all_from board.memory a n

-- the whole access lies in memory or in devices: it isn't absent
unfoldable pub is_there : Board → ℕ → ℕ → Bool
is_there board a n = all_from board.memory a n || all_from board.device a n

-- a store may be made: the access is there, and no byte of it is read-only
unfoldable pub may_store : Board → ℕ → ℕ → Bool
may_store board a n = (all_from board.memory a n || all_from board.device a n) && not (any_from board.read_only a n)
