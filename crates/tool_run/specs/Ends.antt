-- What the crate's calls answer where an image is read and where a run ends. This project's.
use Rattle.std.specs.Prelude.{◌≡◌, ℕ, List, Result, Ok, Err}
use Rattle.sdt_fault.specs.declared.answer.Answer.{Answer}
use Rattle.sdt_fault.specs.declared.answer.Answer.TheVariants as answer
use Rattle.sdt_fault.specs.declared.answer.Fault.{Fault}
use Rattle.sdt_fault.specs.declared.answer.Fault.TheVariants as fault
use Rattle.sdt_fault.specs.declared.answer.Stop.{Stop}
use Rattle.sdt_fault.specs.declared.answer.Stop.TheVariants as stop
use Rattle.sdt_fault.specs.declared.refusal.Refusal.{Refusal}
use Rattle.sdt_fault.specs.declared.refusal.Refusal.TheVariants.{Missing}
use Rattle.run_opening.specs.declared.image.Image.{Image}
use Rattle.tool_answers.specs.declared.inputs.InputEnd.{InputEnd}
use Rattle.tool_answers.specs.declared.inputs.InputEnd.TheVariants as input
use Rattle.tool_answers.specs.Inputs.{named}
use Rattle.tool_run.specs.declared.ends.ImageEnd.{ImageEnd}
use Rattle.tool_run.specs.declared.ends.ImageEnd.TheVariants as end

-- an image was read, or why not: a refusal, or the read of an input failed, or memory was refused
abbrev pub Reads : (Result Image Refusal → Type 0) → Type 0 → (List ℕ → Type 0) → Result Image ImageEnd → Type 0
Reads is rose input (Ok image) = is (Ok image)
Reads is rose input (Err (end.Refused r)) = is (Err r)
Reads is rose input (Err (end.Failed name)) = rose × input name
Reads is rose input (Err end.NoMemory) = Unit {0}

-- what a reader gives of a file, with the file's name in a refusal
abbrev pub named_by : {A : Type 0} → List ℕ → Result A Refusal → Result A Refusal
named_by name (Ok x) = Ok x
named_by name (Err r) = Err (named name r)

-- the end where an input was not read, and where a file is refused
abbrev pub input_end : InputEnd → ImageEnd
input_end (input.Missing name) = end.Refused (Missing name)
input_end (input.Failed name) = end.Failed name
input_end input.NoMemory = end.NoMemory

-- the file is missing, unless memory was refused
abbrev pub IsMissing : List ℕ → ImageEnd → Type 0
IsMissing name (end.Refused r) = r ≡ Missing name
IsMissing name (end.Failed q) = ⊥
IsMissing name end.NoMemory = Unit {0}

abbrev pub fault_end : Fault → ImageEnd
fault_end (fault.Refused r) = end.Refused r
fault_end (fault.ReadFault name) = end.Failed name
fault_end fault.NoMemory = end.NoMemory

-- a reader's fault with the name of the file, unless memory was refused
abbrev pub NamesFault : List ℕ → Fault → Fault → Type 0
NamesFault name (fault.Refused r) (fault.Refused q) = q ≡ named name r
NamesFault name (fault.ReadFault n) (fault.ReadFault q) = q ≡ n
NamesFault name before fault.NoMemory = Unit {0}
NamesFault name before other = ⊥

-- the answer where there is no image, where nothing was opened, and where a run has stopped
abbrev pub image_answer : ImageEnd → Answer
image_answer (end.Refused r) = answer.Refused r
image_answer (end.Failed name) = answer.ReadFault name
image_answer end.NoMemory = answer.NoMemory

abbrev pub stop_answer : Stop → Answer
stop_answer stop.Exit = answer.Done
stop_answer stop.Sink = answer.SinkFault
stop_answer other = answer.Stopped other
