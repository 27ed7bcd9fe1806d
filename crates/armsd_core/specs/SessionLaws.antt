-- Laws of a debugger's sessions.
use Rattle.std.specs.Prelude.{◌≡◌, ℕ, ◌+◌, ◌≤◌, Bool, true, false, List, [], ◌∷◌, ◌++◌, Option, Some, None}
use Rattle.std.specs.List.{list_any}
use Rattle.sdt_outside.specs.Counts.{Rose}
use Rattle.sdt_outside.specs.Sinks.{GotPart}
use Rattle.arm7_model.specs.declared.state.ArmState.{ArmState}
use Rattle.arm7_bus.specs.Buses.{after_detach}
use Rattle.arm7_bus.specs.States.{State}
use Rattle.arm7_run.specs.Runs.{Leads}
use Rattle.armsd_core.specs.declared.command.Command.{Command}
use Rattle.armsd_core.specs.declared.command.Command.TheVariants.{Step, Go, Detach}
use Rattle.armsd_core.specs.declared.reason.Reason.{Reason}
use Rattle.armsd_core.specs.Goes.{Steps}
use Rattle.armsd_core.specs.Sessions.{CarriesOut, Desk, Does, IsCutOff, before_quit}

-- a command takes a device out, or makes steps
abbrev pub is_detach : Command → Bool
is_detach (Detach i) = true
is_detach other = false

abbrev pub is_move : Command → Bool
is_move (Step n) = true
is_move (Go n) = true
is_move other = false

-- a run over a bus: so many steps that go on, or up to a stop for good
abbrev pub IsOneRun : ArmState → State → ℕ → Option Reason → List ℕ → ArmState → State → Type 0
IsOneRun core s n None text core' s' = Leads core s n text core' s'
IsOneRun core s n (Some why) text core' s' = Steps core s (n + 1) why n text core' s'

-- the steps of commands none of which takes a device out are one run of the machine over its bus
abbrev pub SessionIsOneRun : Type 0
SessionIsOneRun =
    (commands : List Command) (d : Desk) (text : List ℕ) (d' : Desk)
    → d.ended ≡ None → list_any is_detach commands ≡ false → CarriesOut commands d text d'
    → (n : ℕ) × (printed : List ℕ) × (d'.steps ≡ d.steps + n) × IsOneRun d.core d.bus n d'.ended printed d'.core d'.bus

-- one that takes a device out ends what was before it, and what is behind it begins on the bus without the device
abbrev pub DetachEndsARun : Type 0
DetachEndsARun =
    (front : List Command) (i : ℕ) (rest : List Command) (d : Desk) (text : List ℕ) (d' : Desk)
    → CarriesOut (front ++ Detach i ∷ rest) d text d'
    → (m : Desk) × (first : List ℕ) × (last : List ℕ)
    × CarriesOut front d first m × CarriesOut rest (record m { bus = after_detach m.bus i }) last d' × (text ≡ first ++ last)

-- but for Step, Go and Detach commands leave registers, memory, devices with their counts of accesses, and the steps so far
abbrev pub OthersLeaveTheMachine : Type 0
OthersLeaveTheMachine =
    (c : Command) (d : Desk) (said : List ℕ) (d' : Desk) → is_move c ≡ false → is_detach c ≡ false → Does c d said d'
    → (d'.core ≡ d.core) × (d'.bus ≡ d.bus) × (d'.steps ≡ d.steps) × (d'.ended ≡ d.ended)

-- the same command; or a Step or a Go with a number that isn't larger
abbrev pub IsShortened : Command → Command → Type 0
IsShortened (Step m) (Step n) = m ≤ n
IsShortened (Go m) (Go n) = m ≤ n
IsShortened short c = short ≡ c

-- these commands begin a session, but that the last may be shortened
pub record IsBeginning (short : List Command) (commands : List Command) : Type 0 where
  pub front : List Command
  pub last : Command
  pub shortened : Command
  pub rest : List Command
  pub whole : before_quit commands ≡ front ++ last ∷ rest
  pub is : short ≡ front ++ shortened ∷ []
  pub less : IsShortened shortened last

-- A session that the sink cut off leaves the machine where such a beginning leads, and the sink has a beginning of its text.
abbrev pub CutOffIsABeginning : Type 0
CutOffIsABeginning =
    (commands : List Command) (d : Desk) (core : ArmState) (s : State) (before after : Option (List ℕ)) (was now : ℕ)
    → IsCutOff commands d core s before after (Rose was now)
    → (short : List Command) × IsBeginning short commands × Rose was now
    × ((text : List ℕ) × (d' : Desk) × CarriesOut short d text d' × (core ≡ d'.core) × (s ≡ d'.bus) × GotPart before after text)
