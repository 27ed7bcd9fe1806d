-- A bus beside another, which differs in the bytes of the work area and in its devices, and the steps of a run with its end.
use Rattle.std.proofs.Common.{◌≡◌, ℕ, ◌⊎◌, List, [], ◌∷◌, ◌++◌}
use Rattle.arm7_model.specs.declared.state.ArmState.{ArmState}
use Rattle.arm7_model.specs.declared.event.Event.{Event}
use Rattle.arm7_model.specs.declared.event.Event.TheVariants as event
use Rattle.arm7_model.specs.Memory.{store}
use Rattle.arm7_model.specs.Outcomes.{Stepped}
use Rattle.arm7_bus.specs.Buses.{after_tick}
use Rattle.arm7_bus.specs.States.{Contents, State}
use Rattle.arm7_transfers.specs.Boards.{board_of}
use Rattle.arm7_run.specs.Runs.{GoesOn}
use Rattle.kit_laws.specs.Beside.{Scratch}
use Rattle.run_laws.specs.Steps.{IsStepOf}

abbrev pub beside_contents : ℕ → Scratch → List (ℕ × ℕ) → Contents → Contents
beside_contents work k stores c = record c { memory = store c.memory work k.bytes; stores = stores }

pub record AreTwins (work : ℕ) (k : Scratch) (q t : State) : Type 0 where
  pub contents : t.contents ≡ beside_contents work k t.contents.stores q.contents
  pub board : board_of t ≡ board_of q

-- a step behind which the run goes on, or that ends it
abbrev pub GoesOrExits : Event → ArmState → State → List ℕ → Type 0
GoesOrExits e core s piece = GoesOn e core s piece ⊎ ((e ≡ event.Host 0x11) × (piece ≡ []))

-- the machine makes these steps, which print a text
abbrev pub Prints : ArmState → State → List Stepped → List ℕ → ArmState → State → Type 0
Prints core s [] text core' s' = (text ≡ []) × (core' ≡ core) × (s' ≡ s)
Prints core s (x ∷ xs) text core' s' =
    (e : Event) × (core1 : ArmState) × (s1 : State) × (piece : List ℕ) × (rest : List ℕ)
    × IsStepOf core (after_tick s) x e core1 s1 × GoesOrExits e core1 s1 piece × Prints core1 s1 xs rest core' s' × (text ≡ piece ++ rest)
