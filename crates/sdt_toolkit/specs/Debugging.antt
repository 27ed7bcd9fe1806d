-- What each answer to `debug` says of the script, the image and the session, and what it leaves of files, sink and devices; and
-- what a session is of the machine's runs. This project's.
use Rattle.std.specs.Prelude.{◌≡◌, ◌⊎◌, ℕ, Bool, false, List, ◌∷◌, ◌++◌, length, Option, Some, None, Result, Ok, Err}
use Rattle.std.specs.List.{list_any}
use Rattle.sdt_fault.specs.declared.answer.Answer.{Answer}
use Rattle.sdt_fault.specs.declared.answer.Answer.TheVariants as answer
use Rattle.sdt_fault.specs.declared.refusal.Refusal.{Refusal}
use Rattle.sdt_fault.specs.declared.refusal.Refusal.TheVariants.{Missing}
use Rattle.sdt_outside.specs.Counts.{Rose}
use Rattle.sdt_outside.specs.Files.{Files, IsFound}
use Rattle.arm7_model.specs.declared.state.ArmState.{ArmState}
use Rattle.arm7_bus.specs.Seats.{Seat}
use Rattle.arm7_bus.specs.States.{State}
use Rattle.arm7_core.specs.Resets.{IsReset}
use Rattle.armsd_core.specs.declared.command.Command.{Command}
use Rattle.armsd_core.specs.declared.reason.Reason.{Reason}
use Rattle.armsd_core.specs.declared.session.DebugEnd.{DebugEnd}
use Rattle.armsd_core.specs.declared.session.DebugEnd.TheVariants as debug
use Rattle.armsd_core.specs.Scripts.{ReadsScript, script_of}
use Rattle.armsd_core.specs.SessionLaws.{IsOneRun, is_detach, is_move}
use Rattle.armsd_core.specs.Sessions.{CarriesOut, Desk, Does, IsDebugged, before_quit, opened}
use Rattle.chunk_file.specs.Reading.{◌>>=◌}
use Rattle.run_opening.specs.declared.image.Image.{Image}
use Rattle.tool_answers.specs.Inputs.{input_of}
use Rattle.tool_answers.specs.Outcomes.{Outside}
use Rattle.tool_words.specs.declared.command.Command.{Command as Asked}
use Rattle.tool_words.specs.declared.command.Command.TheVariants as command
use Rattle.tool_words.specs.declared.command.DebugWords.{DebugWords}
use Rattle.tool_run.specs.Ends.{named_by}
use Rattle.tool_run.specs.Images.{IsInput}
use Rattle.tool_run.specs.Openings.{IsFirstRefusal, IsOpen}
use Rattle.tool_run.specs.Runs.{IsUntouched}

-- ---- the script

-- what the text of a file gives for so many devices: its commands, or the refusal of its first line at fault
abbrev pub script_in : List ℕ → ℕ → List ℕ → Result (List Command) Refusal
script_in file devices text = named_by file (script_of text devices)

-- what the file gives, or that it is missing
abbrev pub script_from : List ℕ → ℕ → Files → Result (List Command) Refusal
script_from file devices files = input_of files file >>= λ text. script_in file devices text

-- the script reads so; where no files are told, as some text gives it, or the file is missing, for which a read failed
abbrev pub IsScript : Option Files → Type 0 → List ℕ → ℕ → Result (List Command) Refusal → Type 0
IsScript None rose file devices script =
    ((text : List ℕ) × (script ≡ script_in file devices text)) ⊎ ((script ≡ Err (Missing file)) × rose)
IsScript (Some files) rose file devices script = script ≡ script_from file devices files

-- the file's lines spell these commands, which are good for so many devices
pub record HasScript (told : Option Files) (file : List ℕ) (devices : ℕ) (commands : List Command) : Type 0 where
  pub text : List ℕ
  pub found : IsFound told file text
  pub reads : ReadsScript text devices commands

-- ---- the session

-- from reset at an address, in Thumb or in ARM state, commands were carried out over a bus, which leaves the devices so
pub record IsSession (commands : List Command) (start : ℕ) (thumb : Bool) (begin : State) (how : DebugEnd)
    (before after : Option (List ℕ)) (rose : Type 0) (left : List Seat) : Type 0 where
  pub core : ArmState
  pub reset : IsReset start thumb core
  pub core' : ArmState
  pub end : State
  pub debugged : IsDebugged commands (opened core begin) how core' end before after rose
  pub devices : left ≡ end.devices

-- the image was loaded into the banks, and the session carried out over it; no file was touched
pub record HasSession (w : DebugWords) (commands : List Command) (how : DebugEnd) (o : Outside) (seats left : List Seat) : Type 0 where
  pub image : Image
  pub begin : State
  pub is_open : IsOpen w.image w.memory w.rom o.before (Rose o.reads o.reads_now) seats image begin
  pub session : IsSession commands image.start image.thumb begin how o.printed o.prints (Rose o.faults o.faults_now) left
  pub files : o.after ≡ o.before

-- so it was of the commands that the script's file spells
pub record HasDebugged (w : DebugWords) (how : DebugEnd) (o : Outside) (seats left : List Seat) : Type 0 where
  pub commands : List Command
  pub script_so : IsScript o.before (Rose o.reads o.reads_now) w.script (length seats) (Ok commands)
  pub script : HasScript o.before w.script (length seats) commands
  pub session : HasSession w commands how o seats left

-- ---- answers

-- the refusal is the script's, or where it reads that of the image's files, or of the banks
abbrev pub IsBehind : DebugWords → Result (List Command) Refusal → Option Files → Type 0 → List Seat → Refusal → Type 0
IsBehind w (Err told) before rose seats r = r ≡ told
IsBehind w (Ok commands) before rose seats r = IsFirstRefusal w.image w.memory w.rom before rose seats r

abbrev pub IsDebugRefusal : DebugWords → Option Files → Type 0 → List Seat → Refusal → Type 0
IsDebugRefusal w before rose seats r =
    (script : Result (List Command) Refusal) × IsScript before rose w.script (length seats) script × IsBehind w script before rose seats r

-- the file is the script's, or, where that reads, one that is read of the image
abbrev pub MayFail : DebugWords → Option Files → Type 0 → List Seat → List ℕ → Type 0
MayFail w before rose seats name =
    (name ≡ w.script)
    ⊎ ((commands : List Command) × IsScript before rose w.script (length seats) (Ok commands) × IsInput before w.image name)

-- the answer to `debug` over devices, which are left so; no stop of the machine is one
abbrev pub DebugAnswers : DebugWords → Outside → List Seat → List Seat → Answer → Type 0
DebugAnswers w o seats left answer.Done = HasDebugged w debug.Ended o seats left
DebugAnswers w o seats left (answer.Refused r) =
    IsDebugRefusal w o.before (Rose o.reads o.reads_now) seats r × IsUntouched o seats left
DebugAnswers w o seats left (answer.ReadFault name) =
    Rose o.reads o.reads_now × MayFail w o.before (Rose o.reads o.reads_now) seats name × IsUntouched o seats left
DebugAnswers w o seats left (answer.WriteFault name) = ⊥
DebugAnswers w o seats left answer.SinkFault = Rose o.faults o.faults_now × HasDebugged w debug.Sink o seats left
DebugAnswers w o seats left (answer.Stopped why) = ⊥
DebugAnswers w o seats left answer.NoMemory = IsUntouched o seats left

-- ---- clause of the top call

-- one run of the machine leads from these registers and this bus to those
pub record IsOneRunTo (core : ArmState) (begin : State) (core' : ArmState) (end : State) : Type 0 where
  pub steps : ℕ
  pub stopped : Option Reason
  pub printed : List ℕ
  pub run : IsOneRun core begin steps stopped printed core' end

-- between the commands before it and those behind it, a command left registers, memory, and devices with their counts of accesses
pub record LeavesAll (d : Desk) (front : List Command) (c : Command) (rest : List Command) (core' : ArmState) (end : State) : Type 0 where
  pub first : List ℕ
  pub here : Desk
  pub before : CarriesOut front d first here
  pub said : List ℕ
  pub there : Desk
  pub does : Does c here said there
  pub core : there.core ≡ here.core
  pub bus : there.bus ≡ here.bus
  pub last : List ℕ
  pub left : Desk
  pub behind : CarriesOut rest there last left
  pub core_so : core' ≡ left.core
  pub bus_so : end ≡ left.bus

-- where no command of a session takes a device out, one run leads from its beginning to its end; and each command that neither
-- makes steps nor takes a device out left all that
pub record AreRuns (commands : List Command) (core : ArmState) (begin : State) (core' : ArmState) (end : State) : Type 0 where
  pub one_run : list_any is_detach (before_quit commands) ≡ false → IsOneRunTo core begin core' end
  pub others : (front rest : List Command) (c : Command) → before_quit commands ≡ front ++ c ∷ rest → is_move c ≡ false
      → is_detach c ≡ false → LeavesAll (opened core begin) front c rest core' end

abbrev pub AnswerRuns : DebugWords → Outside → List Seat → List Seat → Answer → Type 0
AnswerRuns w o seats left answer.Done =
    (h : HasDebugged w debug.Ended o seats left)
    × AreRuns h.commands h.session.session.core h.session.begin h.session.session.core' h.session.session.end
AnswerRuns w o seats left other = Unit {0}

-- so it is of each session that came to its end
abbrev pub DebugsByRuns : Result Asked ℕ → Outside → List Seat → List Seat → Answer → Type 0
DebugsByRuns asked o seats left a = (w : DebugWords) → asked ≡ Ok (command.Debug w) → AnswerRuns w o seats left a

-- ---- inside

-- the commands of the script, or why not
abbrev pub ScriptIs : Option Files → Type 0 → List ℕ → ℕ → Result (List Command) Answer → Type 0
ScriptIs told rose file devices (Ok commands) = IsScript told rose file devices (Ok commands) × HasScript told file devices commands
ScriptIs told rose file devices (Err (answer.Refused r)) = IsScript told rose file devices (Err r)
ScriptIs told rose file devices (Err (answer.ReadFault name)) = rose × (name ≡ file)
ScriptIs told rose file devices (Err answer.NoMemory) = Unit {0}
ScriptIs told rose file devices (Err other) = ⊥

-- the answer of a session, and what the answer behind a script of these commands says
abbrev pub session_answer : DebugEnd → Answer
session_answer debug.Ended = answer.Done
session_answer debug.Sink = answer.SinkFault

abbrev pub SessionAnswers : DebugWords → List Command → Outside → List Seat → List Seat → Answer → Type 0
SessionAnswers w commands o seats left answer.Done = HasSession w commands debug.Ended o seats left
SessionAnswers w commands o seats left (answer.Refused r) =
    IsFirstRefusal w.image w.memory w.rom o.before (Rose o.reads o.reads_now) seats r × IsUntouched o seats left
SessionAnswers w commands o seats left (answer.ReadFault name) =
    Rose o.reads o.reads_now × IsInput o.before w.image name × IsUntouched o seats left
SessionAnswers w commands o seats left answer.SinkFault = Rose o.faults o.faults_now × HasSession w commands debug.Sink o seats left
SessionAnswers w commands o seats left answer.NoMemory = IsUntouched o seats left
SessionAnswers w commands o seats left other = ⊥
