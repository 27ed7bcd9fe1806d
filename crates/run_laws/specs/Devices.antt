-- Steps that access no device, and what time alone makes of devices. This project's.
use Rattle.std.specs.Prelude.{◌≡◌, ℕ, zero, suc, false, List, [], ◌∷◌, map}
use Rattle.arm7_model.specs.Accesses.{Access, Fetch, Load, Store}
use Rattle.arm7_model.specs.Memory.{Board}
use Rattle.arm7_model.specs.Runs.{Input}
use Rattle.arm7_bus.specs.Seats.{Seat, lines_up, seat_ticked}
use Rattle.arm7_core.specs.Machines.{levels}

-- the address of an access
abbrev pub address : Access → ℕ
address (Fetch a width) = a
address (Load a width) = a
address (Store a width v) = a

-- none of the accesses begins in a device
abbrev pub AreOffDevices : Board → List Access → Type 0
AreOffDevices board [] = Unit {0}
AreOffDevices board (x ∷ xs) = (board.device (address x) ≡ false) × AreOffDevices board xs

-- devices after so many steps of time
abbrev pub ticked_for : ℕ → List Seat → List Seat
ticked_for zero seats = seats
ticked_for (suc n) seats = ticked_for n (map seat_ticked seats)

-- what they give to so many steps that access none of them: their lines, and no answers
abbrev pub lines_for : ℕ → List Seat → List Input
lines_for zero seats = []
lines_for (suc n) seats =
    record { lines = levels (lines_up (map seat_ticked seats)); answers = [] } ∷ lines_for n (map seat_ticked seats)

-- the counts of the accesses that touched them
abbrev pub touches_of : List Seat → List ℕ
touches_of seats = map (λ d. d.touches) seats
