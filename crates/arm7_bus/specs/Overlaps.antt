-- Which addresses a new bank may not have. This project's.
use Rattle.std.specs.Prelude.{ℕ, Bool, ◌&&◌, ◌||◌}
use Rattle.sdt_fault.specs.declared.answer.Fault.{Fault}
use Rattle.sdt_fault.specs.declared.answer.Fault.TheVariants as fault
use Rattle.sdt_fault.specs.declared.refusal.Refusal.{Refusal}
use Rattle.sdt_fault.specs.declared.refusal.Refusal.TheVariants.{BankOverlap}
use Rattle.sdt_word.specs.declared.ranges.Range32.{Range32}
use Rattle.arm7_bus.specs.Meets.{IsLeast, seats_have}
use Rattle.arm7_bus.specs.Seats.{has_access}
use Rattle.arm7_bus.specs.States.{State, bank_has}

-- the range and a bank or a device have the address
abbrev pub range_shares : Range32 → State → ℕ → Bool
range_shares r s a = (has_access r.base r.size a 1 && bank_has s.contents.banks a 1) || (has_access r.base r.size a 1 && seats_have s.devices a)

-- why there is no bank: the address is the least that passes the test, or there is no memory
abbrev pub RefusesOverlap : (ℕ → Bool) → Refusal → Type 0
RefusesOverlap test (BankOverlap a) = IsLeast test a
RefusesOverlap test other = ⊥

abbrev pub IsBankFault : (ℕ → Bool) → Fault → Type 0
IsBankFault test (fault.Refused refusal) = RefusesOverlap test refusal
IsBankFault test fault.NoMemory = Unit {0}
IsBankFault test other = ⊥
