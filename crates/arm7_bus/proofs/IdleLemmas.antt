-- Devices that a step of time doesn't change.
use Rattle.std.proofs.Common.{◌≡◌, true, false, List, [], ◌∷◌, map, refl, arith}
use Rattle.sdt_outside.specs.declared.device.DeviceState.{DeviceState}
use Rattle.sdt_outside.specs.declared.device.DeviceState.TheVariants.{Quiet, TimerState, UartState}
use Rattle.sdt_outside.specs.declared.device.Lines.{Lines}
use Rattle.sdt_outside.specs.Devices.{is_idle, lines_of, ticked}
use Rattle.arm7_bus.specs.Seats.{Seat, are_idle, lines_up, seat_ticked}
use Rattle.arm7_bus.proofs.TestLemmas.{first, second}

-- no line is up
abbrev down : Lines
down = record { irq = false; fiq = false }

state_same : (s : DeviceState) → is_idle s ≡ true → ticked s ≡ s
state_same Quiet e = refl
state_same (TimerState period control count up) e = grind arith
state_same (UartState last number) e = refl

state_down : (s : DeviceState) → is_idle s ≡ true → lines_of s ≡ down
state_down Quiet e = refl
state_down (TimerState period control count up) e = grind arith
state_down (UartState last number) e = refl

pub seats_same : (ds : List Seat) → are_idle ds ≡ true → map seat_ticked ds ≡ ds
seats_same [] e = refl
seats_same (d ∷ ds) e =
    rw (state_same d.state (first (is_idle d.state) (are_idle ds) e), seats_same ds (second (is_idle d.state) (are_idle ds) e)) refl

pub no_lines : (ds : List Seat) → are_idle ds ≡ true → lines_up ds ≡ down
no_lines [] e = refl
no_lines (d ∷ ds) e =
    rw (state_down d.state (first (is_idle d.state) (are_idle ds) e), no_lines ds (second (is_idle d.state) (are_idle ds) e)) refl
