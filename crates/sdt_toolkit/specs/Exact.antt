-- Which answer a command gets where nothing fails outside: it is refused exactly where there is a first defect, and by that one.
-- This project's.
use Rattle.std.specs.Prelude.{◌≡◌, ℕ, List, Some, Result}
use Rattle.sdt_fault.specs.declared.answer.Answer.{Answer}
use Rattle.sdt_fault.specs.declared.answer.Answer.TheVariants as answer
use Rattle.sdt_fault.specs.declared.refusal.Refusal.{Refusal}
use Rattle.sdt_outside.specs.Counts.{Rose}
use Rattle.sdt_outside.specs.Files.{Files}
use Rattle.arm7_bus.specs.Seats.{Seat}
use Rattle.tool_words.specs.declared.command.Command.{Command}
use Rattle.tool_answers.specs.Outcomes.{Outside}
use Rattle.sdt_toolkit.specs.Commands.{IsFirst}
use Rattle.sdt_toolkit.specs.Reads.{reads_of}

-- neither the store nor the sink counted a fault
pub record IsCalm (o : Outside) : Type 0 where
  pub reads : Rose o.reads o.reads_now → ⊥
  pub writes : Rose o.writes o.writes_now → ⊥
  pub sink : Rose o.faults o.faults_now → ⊥

-- carried out, or begun by a run that stopped; memory may be refused besides
abbrev pub IsAccepted : Answer → Type 0
IsAccepted answer.Done = Unit {0}
IsAccepted (answer.Stopped why) = Unit {0}
IsAccepted answer.NoMemory = Unit {0}
IsAccepted other = ⊥

-- refused by this; memory may be refused besides
abbrev pub IsRefusedBy : Refusal → Answer → Type 0
IsRefusedBy r (answer.Refused told) = told ≡ r
IsRefusedBy r answer.NoMemory = Unit {0}
IsRefusedBy r other = ⊥

pub record IsJudged (asked : Result Command ℕ) (o : Outside) (seats : List Seat) (a : Answer) : Type 0 where
  pub accepted : ((r : Refusal) → IsFirst asked (reads_of o) seats r → ⊥) → IsAccepted a
  pub refused : (r : Refusal) → IsFirst asked (reads_of o) seats r → IsRefusedBy r a

-- over files that are told
abbrev pub Exact : Result Command ℕ → Outside → List Seat → Answer → Type 0
Exact asked o seats a = (files : Files) → o.before ≡ Some files → IsCalm o → IsJudged asked o seats a
