-- What each answer to `run` says of the image and the run, and what it leaves of files, sink and devices. This
-- project's.
use Rattle.std.specs.Prelude.{◌≡◌, ◌≤◌, ℕ, Bool, List, Option, Result, Ok}
use Rattle.sdt_fault.specs.declared.answer.Answer.{Answer}
use Rattle.sdt_fault.specs.declared.answer.Answer.TheVariants as answer
use Rattle.sdt_fault.specs.declared.answer.Stop.{Stop}
use Rattle.sdt_fault.specs.declared.answer.Stop.TheVariants as stop
use Rattle.sdt_fault.specs.declared.refusal.Refusal.{Refusal}
use Rattle.sdt_outside.specs.Counts.{Rose}
use Rattle.arm7_model.specs.declared.state.ArmState.{ArmState}
use Rattle.arm7_bus.specs.declared.memory.Bank.{Bank as MemoryBank}
use Rattle.arm7_bus.specs.Seats.{Seat}
use Rattle.arm7_bus.specs.States.{State}
use Rattle.arm7_core.specs.Resets.{IsReset}
use Rattle.arm7_run.specs.Runs.{RunsInto}
use Rattle.run_opening.specs.declared.image.Image.{Image}
use Rattle.run_opening.specs.Banks.{IsRoomy}
use Rattle.run_opening.specs.Openings.{IsOpening}
use Rattle.tool_answers.specs.Outcomes.{Outside, IsLeft}
use Rattle.tool_words.specs.declared.command.RunWords.{RunWords}
use Rattle.tool_run.specs.Images.{IsInput, IsRead}
use Rattle.tool_run.specs.Openings.{AreBanks, IsRefusal}

-- ---- the run

-- from reset at an address, in Thumb or in ARM state, the machine makes at most so many steps over a bus, up to this
-- stop; its text goes to the sink, and it leaves the devices so
pub record IsRun (start : ℕ) (thumb : Bool) (most : ℕ) (begin : State) (why : Stop)
    (before after : Option (List ℕ)) (rose : Type 0) (left : List Seat) : Type 0 where
  pub core : ArmState
  pub reset : IsReset start thumb core
  pub made : ℕ
  pub few : made ≤ most
  pub core' : ArmState
  pub end : State
  pub runs : RunsInto most core begin why made core' end before after rose
  pub devices : left ≡ end.devices

-- an image was run over banks and devices that have room for it
pub record Ran (banks : List MemoryBank) (image : Image) (most : ℕ) (why : Stop)
    (before after : Option (List ℕ)) (rose : Type 0) (seats left : List Seat) : Type 0 where
  pub roomy : IsRoomy banks seats image.needs
  pub begin : State
  pub opening : IsOpening banks image seats begin
  pub is_run : IsRun image.start image.thumb most begin why before after rose left

-- what was read is an image, and it was run; no file was touched
pub record HasRun (run : RunWords) (read : Result Image Refusal) (why : Stop) (o : Outside) (seats left : List Seat) : Type 0 where
  pub image : Image
  pub read_so : read ≡ Ok image
  pub banks : List MemoryBank
  pub are_banks : AreBanks run.memory run.rom banks
  pub ran : Ran banks image run.steps why o.printed o.prints (Rose o.faults o.faults_now) seats left
  pub files : o.after ≡ o.before

-- ---- answers

-- nothing was written, nothing printed, and the devices are as they were
pub record IsUntouched (o : Outside) (seats left : List Seat) : Type 0 where
  pub outside : IsLeft o
  pub devices : left ≡ seats

-- a stop that is told as such
abbrev pub IsStopped : Stop → Type 0
IsStopped stop.Exit = ⊥
IsStopped stop.Sink = ⊥
IsStopped other = Unit {0}

abbrev pub RunSays : RunWords → Result Image Refusal → Outside → List Seat → List Seat → Answer → Type 0
RunSays run read o seats left answer.Done = HasRun run read stop.Exit o seats left
RunSays run read o seats left (answer.Stopped why) = IsStopped why × HasRun run read why o seats left
RunSays run read o seats left answer.SinkFault = HasRun run read stop.Sink o seats left
RunSays run read o seats left (answer.Refused r) = IsRefusal run.memory run.rom read seats r × IsUntouched o seats left
RunSays run read o seats left (answer.ReadFault name) =
    Rose o.reads o.reads_now × IsInput o.before run.image name × IsUntouched o seats left
RunSays run read o seats left (answer.WriteFault name) = ⊥
RunSays run read o seats left answer.NoMemory = IsUntouched o seats left

-- the answer to a run over devices, which are left so
pub record RunAnswers (run : RunWords) (o : Outside) (seats left : List Seat) (a : Answer) : Type 0 where
  pub read : Result Image Refusal
  pub read_so : IsRead o.before (Rose o.reads o.reads_now) run.image read
  pub says : RunSays run read o seats left a
