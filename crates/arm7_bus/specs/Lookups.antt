-- Which bank has an access: the banks share no address, so a byte of it lies in one of them at most. This project's.
use Rattle.std.specs.Prelude.{◌≡◌, ℕ, ◌+◌, ◌<◌, Bool, true, false, ◌&&◌, ◌||◌, List, [], ◌∷◌, length, slice_index_or}
use Rattle.std.specs.List.{list_any}
use Rattle.arm7_model.specs.Memory.{any_from}
use Rattle.arm7_bus.specs.declared.memory.Bank.{Bank}
use Rattle.arm7_bus.specs.Seats.{has_access}

-- one bank has the whole access of n bytes at a
abbrev pub bank_has : List Bank → ℕ → ℕ → Bool
bank_has banks a n = list_any (λ b. has_access b.range.base b.range.size a n) banks

-- each of the stores lies in a bank
abbrev pub lie_in_banks : List Bank → List (ℕ × ℕ) → Bool
lie_in_banks banks [] = true
lie_in_banks banks ((a, n) ∷ stores) = bank_has banks a n && lie_in_banks banks stores

-- a bank and a later one have the address
abbrev pub banks_meet : List Bank → ℕ → Bool
banks_meet [] a = false
banks_meet (b ∷ bs) a = (has_access b.range.base b.range.size a 1 && list_any (λ c. has_access c.range.base c.range.size a 1) bs) || banks_meet bs a

-- no two banks have an address
pub record AreApartBanks (banks : List Bank) : Type 0 where
  pub none : (a : ℕ) → banks_meet banks a ≡ false

-- the bank at a place of the list has the whole access of n bytes at a
pub record IsBankAt (banks : List Bank) (i a n : ℕ) : Type 0 where
  pub within : i < length banks
  pub access : (b : Bank) → b ≡ slice_index_or banks i b → has_access b.range.base b.range.size a n ≡ true

-- the banks have each of the n addresses from a on
pub record HasFrom (banks : List Bank) (a n : ℕ) : Type 0 where
  pub each : (k : ℕ) → k < n → list_any (λ b. has_access b.range.base b.range.size (a + k) 1) banks ≡ true

-- the byte at a is protected
abbrev pub protected_at : List Bank → ℕ → Bool
protected_at banks a = list_any (λ b. b.read_only && has_access b.range.base b.range.size a 1) banks

-- a byte of the access is protected
abbrev pub is_protected : List Bank → ℕ → ℕ → Bool
is_protected banks a n = any_from (protected_at banks) a n
