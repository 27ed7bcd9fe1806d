-- The state of a bus, by what its devices are. This project's.
use Rattle.std.specs.Prelude.{ℕ}
use Rattle.sdt_outside.specs.declared.device.DeviceState.{DeviceState}
use Rattle.arm7_bus.specs.declared.bus.Bus.{Bus}
use Rattle.arm7_bus.specs.Buses.{bus_state}
use Rattle.arm7_bus.specs.States.{State}

-- a bus whose devices have these bases, sizes, states and counts
abbrev pub state_of : {X : Type 0} {F : X → Type 0} → (((v : X) × F v) → ℕ) → (((v : X) × F v) → ℕ) → (((v : X) × F v) → DeviceState) → (((v : X) × F v) → ℕ) → Bus X F → State
state_of base size state touched bus =
    bus_state (λ b. base (b.vtable, b.value)) (λ b. size (b.vtable, b.value)) (λ b. state (b.vtable, b.value)) (λ b. touched (b.vtable, b.value)) bus
