-- Ranges of whole words: a bank or a device that has a byte of an aligned access has all of it. This project's.
use Rattle.std.specs.Prelude.{◌≡◌, ℕ, ◌%◌, List, [], ◌∷◌}
use Rattle.arm7_bus.specs.declared.memory.Bank.{Bank}
use Rattle.arm7_bus.specs.Seats.{Seat}

-- base and size are multiples of 4
abbrev pub IsWhole : ℕ → ℕ → Type 0
IsWhole base size = (base % 4 ≡ 0) × (size % 4 ≡ 0)

-- so are those of each device, and of each bank
abbrev pub AreWholeSeats : List Seat → Type 0
AreWholeSeats [] = Unit {0}
AreWholeSeats (d ∷ ds) = IsWhole d.base d.size × AreWholeSeats ds

abbrev pub AreWholeBanks : List Bank → Type 0
AreWholeBanks [] = Unit {0}
AreWholeBanks (b ∷ bs) = IsWhole b.range.base b.range.size × AreWholeBanks bs
