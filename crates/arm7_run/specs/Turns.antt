-- What the host does behind a step. This project's.
use Rattle.std.specs.Prelude.{◌≡◌, ◌≢◌, ℕ, ◌+◌, List, [], ◌∷◌, Option, Some, None}
use Rattle.sdt_fault.specs.declared.answer.Stop.TheVariants as stop
use Rattle.sdt_outside.specs.Sinks.{Got, GotPart}
use Rattle.arm7_model.specs.declared.state.ArmState.{ArmState}
use Rattle.arm7_model.specs.declared.event.Event.{Event}
use Rattle.arm7_model.specs.declared.event.Event.TheVariants as event
use Rattle.arm7_model.specs.Registers.{register}
use Rattle.arm7_bus.specs.States.{State, Contents}
use Rattle.arm7_core.specs.Machines.{IsStep}
use Rattle.arm7_run.specs.declared.host.Turn.{Turn}
use Rattle.arm7_run.specs.declared.host.Turn.TheVariants as turn
use Rattle.arm7_run.specs.declared.host.RunEnd.{RunEnd}
use Rattle.arm7_run.specs.Runs.{GoesOn}
use Rattle.arm7_run.specs.Strings.{IsBroken, IsString}

-- the string at an address was printed, or a beginning of it where it isn't empty, or it is broken
abbrev pub Strings : Turn → Contents → ℕ → Option (List ℕ) → Option (List ℕ) → Type 0 → Type 0
Strings turn.On c a before after rose = (piece : List ℕ) × IsString c a piece × Got before after piece
Strings turn.Chokes c a before after rose = rose × ((piece : List ℕ) × IsString c a piece × (piece ≢ []) × GotPart before after piece)
Strings (turn.Breaks told) c a before after rose = IsBroken c a told × (after ≡ before)
Strings turn.Exits c a before after rose = ⊥
Strings (turn.Unpredictable at w) c a before after rose = ⊥
Strings (turn.NoFrame at) c a before after rose = ⊥

-- a byte was printed, or nothing of it
abbrev pub Bytes : Turn → ℕ → Option (List ℕ) → Option (List ℕ) → Type 0 → Type 0
Bytes turn.On byte before after rose = Got before after (byte ∷ [])
Bytes turn.Chokes byte before after rose = rose × GotPart before after (byte ∷ [])
Bytes (turn.Breaks told) byte before after rose = ⊥
Bytes turn.Exits byte before after rose = ⊥
Bytes (turn.Unpredictable at w) byte before after rose = ⊥
Bytes (turn.NoFrame at) byte before after rose = ⊥

-- how a run goes on behind a step that began at an address, by where it led
abbrev pub Turns : Turn → Event → ℕ → ArmState → State → Option (List ℕ) → Option (List ℕ) → Type 0 → Type 0
Turns turn.On e at core s before after rose = (piece : List ℕ) × GoesOn e core s piece × Got before after piece
Turns turn.Exits e at core s before after rose = (e ≡ event.Host 0x11) × (after ≡ before)
Turns (turn.Breaks a) e at core s before after rose = (e ≡ event.Host 0x02) × IsBroken s.contents (register core 0) a × (after ≡ before)
Turns turn.Chokes e at core s before after rose = rose × ((piece : List ℕ) × GoesOn e core s piece × (piece ≢ []) × GotPart before after piece)
Turns (turn.Unpredictable a w) e at core s before after rose = (e ≡ event.Unpredictable w) × (a ≡ at) × (after ≡ before)
Turns (turn.NoFrame a) e at core s before after rose = (e ≡ event.NoFrame a) × (after ≡ before)

-- a step, and how a run goes on behind it
abbrev pub Turned : Turn → ArmState → State → ArmState → State → Option (List ℕ) → Option (List ℕ) → Type 0 → Type 0
Turned t core s core' s' before after rose = (e : Event) × IsStep core s e core' s' × Turns t e (register core 15) core' s' before after rose

-- the end of a run behind so many steps and this turn
abbrev pub ended : Turn → ℕ → Option RunEnd
ended turn.On made = None
ended turn.Exits made = Some (record { stop = stop.Exit; steps = made + 1 })
ended (turn.Breaks a) made = Some (record { stop = stop.BadString a; steps = made + 1 })
ended turn.Chokes made = Some (record { stop = stop.Sink; steps = made + 1 })
ended (turn.Unpredictable a w) made = Some (record { stop = stop.Unpredictable a w; steps = made })
ended (turn.NoFrame a) made = Some (record { stop = stop.NoFrame a; steps = made })
