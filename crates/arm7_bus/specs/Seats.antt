-- Devices as the bus sees them: each in its place, with its state. This project's.
use Rattle.std.specs.Prelude.{ℕ, zero, suc, ◌+◌, ◌-◌, Bool, true, false, nat_le, ◌&&◌, ◌||◌, if◌then◌else◌, List, [], ◌∷◌, Option, Some, None, map, find, option_map}
use Rattle.sdt_word.specs.declared.codes.Width.{Width}
use Rattle.sdt_outside.specs.declared.device.DeviceState.{DeviceState}
use Rattle.sdt_outside.specs.declared.device.Lines.{Lines}
use Rattle.sdt_outside.specs.Counts.{counted}
use Rattle.sdt_outside.specs.Devices.{answered, stored, ticked, lines_of, is_idle}

-- a device in its place: the range of its addresses, its state, and the count of accesses that touched it
pub record Seat : Type 0 where
  pub base : ℕ
  pub size : ℕ
  pub state : DeviceState
  pub touches : ℕ

-- the seats of some devices, which have these bases, sizes, states and counts
abbrev pub seats_by : {B : Type 0} → (B → ℕ) → (B → ℕ) → (B → DeviceState) → (B → ℕ) → List B → List Seat
seats_by base size state touched devices =
    map (λ d. record { base = base d; size = size d; state = state d; touches = touched d }) devices

-- the whole access of n bytes at a lies in the size addresses from base on
abbrev pub has_access : ℕ → ℕ → ℕ → ℕ → Bool
has_access base size a n = nat_le base a && nat_le (a + n) (base + size)

-- the place of the first one in a list that passes a test
abbrev pub first_place : {B : Type 0} → (B → Bool) → List B → Option ℕ
first_place test [] = None
first_place test (x ∷ xs) = if test x then Some 0 else option_map (λ i. i + 1) (first_place test xs)

-- the device that has the access
abbrev pub device_at : List Seat → ℕ → ℕ → Option Seat
device_at seats a n = find (λ d. has_access d.base d.size a n) seats

-- that device changes, all others stay
abbrev pub changed_at : (Seat → Seat) → ℕ → ℕ → List Seat → List Seat
changed_at change a n [] = []
changed_at change a n (d ∷ ds) =
    if has_access d.base d.size a n then change d ∷ ds else d ∷ changed_at change a n ds

-- a device after a read, after a write at an address, and after a step of time
abbrev pub seat_read : Seat → Seat
seat_read d = record d { touches = counted d.touches }

abbrev pub seat_written : ℕ → Width → ℕ → Seat → Seat
seat_written a width value d = record d { state = stored d.state (a - d.base) width value; touches = counted d.touches }

abbrev pub seat_ticked : Seat → Seat
seat_ticked d = record d { state = ticked d.state }

-- the answer of a device to a read at an address
abbrev pub seat_answer : ℕ → Width → Seat → ℕ
seat_answer a width d = answered d.state (a - d.base) width

-- a line is up where a device raises it
abbrev pub lines_up : List Seat → Lines
lines_up [] = record { irq = false; fiq = false }
lines_up (d ∷ ds) = record { irq = (lines_of d.state).irq || (lines_up ds).irq; fiq = (lines_of d.state).fiq || (lines_up ds).fiq }

-- a step of time changes none of them, and none raises a line
abbrev pub are_idle : List Seat → Bool
are_idle [] = true
are_idle (d ∷ ds) = is_idle d.state && are_idle ds

-- the device at a place takes a step, and the lines that it raises
abbrev pub ticked_at : ℕ → List Seat → List Seat
ticked_at i [] = []
ticked_at zero (d ∷ ds) = seat_ticked d ∷ ds
ticked_at (suc i) (d ∷ ds) = d ∷ ticked_at i ds

abbrev pub lines_at : ℕ → List Seat → Lines
lines_at i [] = record { irq = false; fiq = false }
lines_at zero (d ∷ ds) = lines_of d.state
lines_at (suc i) (d ∷ ds) = lines_at i ds
