-- What the code keeps of a desk, and what its steps come to. This project's.
use Rattle.std.specs.Prelude.{◌≡◌, ℕ, ◌+◌, ◌<◌, ◌≤◌, List, length, Option, Some, None, Result, OnOk, OnErr}
use Rattle.sdt_outside.specs.Sinks.{Got, GotPart}
use Rattle.arm7_model.specs.declared.state.ArmState.{ArmState}
use Rattle.arm7_bus.specs.States.{State}
use Rattle.armsd_core.specs.declared.command.Command.{Command}
use Rattle.armsd_core.specs.declared.command.Command.TheVariants.{Break}
use Rattle.armsd_core.specs.declared.desk.Notes.{Notes}
use Rattle.armsd_core.specs.declared.reason.Reason.{Reason}
use Rattle.armsd_core.specs.Reasons.{lasting}
use Rattle.armsd_core.specs.Sessions.{Desk, Does, Fails}

abbrev pub desk_of : Notes → ArmState → State → Desk
desk_of notes core s = record { core = core; bus = s; steps = notes.steps; points = notes.points; watch = notes.watch; ended = notes.ended }

-- a command was carried out, and its text went out
abbrev pub IsDone : Command → Desk → Desk → Option (List ℕ) → Option (List ℕ) → Type 0
IsDone command d d' before after = (said : List ℕ) × Does command d said d' × Got before after said

-- it was, or the sink failed in it, and left the machine so
pub record IsCarriedOut {A E : Type 0} (command : Command) (d d' : Desk) (before after : Option (List ℕ)) (rose : Type 0)
    (r : Result A E) : Type 0 where
  pub ok : OnOk r (IsDone command d d' before after)
  pub failed : OnErr r (Fails command d d'.core d'.bus before after rose)

-- a text went out, or the sink failed, and got a beginning of it
pub record Prints {A E : Type 0} (text : List ℕ) (before after : Option (List ℕ)) (rose : Type 0) (r : Result A E) : Type 0 where
  pub ok : OnOk r (Got before after text)
  pub failed : OnErr r (rose × GotPart before after text)

-- there is room for a breakpoint
abbrev pub HasRoom : Command → List ℕ → Type 0
HasRoom (Break a) points = length points < 64
HasRoom other points = Unit {0}

-- how many breakpoints a command sets
abbrev pub sets : Command → ℕ
sets (Break a) = 1
sets other = 0

-- and a command makes so many steps at most
pub record Grows (command : Command) (old new : Notes) : Type 0 where
  pub points : length new.points ≤ length old.points + sets command
  pub steps : new.steps ≤ old.steps + 1000000000
