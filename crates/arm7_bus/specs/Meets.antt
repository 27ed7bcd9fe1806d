-- Which addresses more than one range has, and the least of them. This project's.
use Rattle.std.specs.Prelude.{◌≡◌, ℕ, ◌≤◌, Bool, true, false, ◌&&◌, ◌||◌, List, [], ◌∷◌, Option, None, Some, min}
use Rattle.std.specs.List.{list_any}
use Rattle.arm7_bus.specs.Seats.{Seat, has_access}

-- no address passes the test
pub record IsNowhere (test : ℕ → Bool) : Type 0 where
  pub none : (a : ℕ) → test a ≡ false

-- the address passes the test, and no lesser one does
pub record IsLeast (test : ℕ → Bool) (a : ℕ) : Type 0 where
  pub passes : test a ≡ true
  pub least : (b : ℕ) → test b ≡ true → a ≤ b

-- the least address that passes the test, and None exactly where there is none
abbrev pub IsFound : (ℕ → Bool) → Option ℕ → Type 0
IsFound test None = IsNowhere test
IsFound test (Some a) = IsLeast test a

-- the lesser of two addresses, where there are two
abbrev pub lesser_of : Option ℕ → Option ℕ → Option ℕ
lesser_of None o = o
lesser_of (Some a) None = Some a
lesser_of (Some a) (Some b) = Some (min a b)

-- a device has the address
abbrev pub seats_have : List Seat → ℕ → Bool
seats_have seats a = list_any (λ d. has_access d.base d.size a 1) seats

-- a device and a later one have the address
abbrev pub seats_share : List Seat → ℕ → Bool
seats_share [] a = false
seats_share (d ∷ ds) a = (has_access d.base d.size a 1 && seats_have ds a) || seats_share ds a
