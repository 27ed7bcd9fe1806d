-- The answer of `debug`, by its script, its opening and its session.
use Rattle.std.proofs.Common.{◌≡◌, ℕ, ◌≤◌, List, length, Option, Some, None, Result, Ok, Err, inl, inr, refl, sym, ap, ◌∙◌, arith}
use Rattle.sdt_fault.specs.declared.answer.Answer.{Answer}
use Rattle.sdt_fault.specs.declared.answer.Answer.TheVariants as answer
use Rattle.sdt_fault.specs.declared.answer.Fault.{Fault}
use Rattle.sdt_fault.specs.declared.answer.Fault.TheVariants as fault
use Rattle.sdt_fault.specs.declared.refusal.Refusal.{Refusal}
use Rattle.sdt_fault.specs.declared.refusal.Refusal.TheVariants.{Missing}
use Rattle.sdt_outside.specs.Counts.{Rose}
use Rattle.sdt_outside.specs.Files.{Files, IsFound}
use Rattle.arm7_bus.specs.Seats.{Seat}
use Rattle.arm7_bus.specs.States.{State}
use Rattle.armsd_core.specs.declared.command.Command.{Command}
use Rattle.armsd_core.specs.declared.session.DebugEnd.{DebugEnd}
use Rattle.armsd_core.specs.declared.session.DebugEnd.TheVariants as debug
use Rattle.armsd_core.specs.Scripts.{Gives, ReadsScript, script_of}
use Rattle.armsd_core.specs.Sessions.{opened}
use Rattle.armsd_core.proofs.CutLemmas.{cut_off_is_a_beginning}
use Rattle.chunk_file.specs.Reading.{◌>>=◌}
use Rattle.run_opening.specs.declared.image.Image.{Image}
use Rattle.tool_answers.specs.declared.inputs.InputEnd.{InputEnd}
use Rattle.tool_answers.specs.declared.inputs.InputEnd.TheVariants as input
use Rattle.tool_answers.specs.Inputs.{IsEnd, found_or, named}
use Rattle.tool_answers.specs.Outcomes.{Outside}
use Rattle.tool_words.specs.declared.command.Bank.{Bank}
use Rattle.tool_words.specs.declared.command.DebugWords.{DebugWords}
use Rattle.tool_words.specs.declared.command.RunImage.{RunImage}
use Rattle.tool_library.specs.Libraries.{NamesFault, end_answer, fault_answer}
use Rattle.tool_run.specs.declared.ends.ImageEnd.{ImageEnd}
use Rattle.tool_run.specs.declared.ends.ImageEnd.TheVariants as end
use Rattle.tool_run.specs.Ends.{image_answer, named_by}
use Rattle.tool_run.specs.Images.{IsRead}
use Rattle.tool_run.specs.Openings.{IsFirstRefusal, IsOpen, IsUnopened}
use Rattle.tool_run.specs.Runs.{IsUntouched}
use Rattle.sdt_toolkit.specs.Debugging.{DebugAnswers, HasDebugged, HasSession, IsScript, ScriptIs, SessionAnswers, script_in, session_answer}
use Rattle.sdt_toolkit.specs.Reads.{outside_of}

-- ---- the script

module _ (file : List ℕ) (devices : ℕ) where
  -- what a text gives that was found
  read_so : (told : Option Files) (rose : Type 0) (text : List ℕ) (script : Result (List Command) Refusal) → IsFound told file text
      → script_in file devices text ≡ script → IsScript told rose file devices script
  read_so None rose text script found is = inl (text, sym is)
  read_so (Some files) rose text script found is =
      sym (ap (λ (x : Option (List ℕ)). found_or file x >>= λ text. script_in file devices text) found ∙ is)

  pub script_read : (told : Option Files) (rose : Type 0) (text : List ℕ) (commands : List Command) → IsFound told file text
      → ReadsScript text devices commands → script_of text devices ≡ Ok commands → ScriptIs told rose file devices (Ok commands)
  script_read told rose text commands found reads is =
      (read_so told rose text (Ok commands) found (ap (named_by file) is), record { text = text; found = found; reads = reads })

  missing : (told : Option Files) (rose : Type 0) → IsEnd (input.Missing file) told file rose → IsScript told rose file devices (Err (Missing file))
  missing None rose h = inr (refl, h.1)
  missing (Some files) rose h = sym (ap (λ (x : Option (List ℕ)). found_or file x >>= λ text. script_in file devices text) h.1)

  pub script_unread : (e : InputEnd) (told : Option Files) (rose : Type 0) → IsEnd e told file rose → ScriptIs told rose file devices (Err (end_answer e))
  script_unread (input.Missing q) told rose h = rw h.0 (missing told rose (refl, h.1))
  script_unread (input.Failed q) told rose h = (h.1, h.0)
  script_unread input.NoMemory told rose h = tt

  pub script_refused : (f g : Fault) (told : Option Files) (rose : Type 0) (text : List ℕ) → IsFound told file text → Gives (Err f) (script_of text devices)
      → NamesFault file f g → ScriptIs told rose file devices (Err (fault_answer g))
  script_refused (fault.Refused r) (fault.Refused q) told rose text found gives names =
      rw names (read_so told rose text (Err (named file r)) found (ap (named_by file) gives))
  script_refused (fault.Refused r) (fault.ReadFault name) told rose text found gives names = absurd names
  script_refused (fault.ReadFault name) g told rose text found gives names = absurd gives
  script_refused fault.NoMemory (fault.Refused q) told rose text found gives names = absurd names
  script_refused fault.NoMemory (fault.ReadFault name) told rose text found gives names = absurd names
  script_refused f fault.NoMemory told rose text found gives names = tt

-- the answer where there are no commands
pub unscripted : (a : Answer) (w : DebugWords) (o : Outside) (seats left : List Seat)
    → ScriptIs o.before (Rose o.reads o.reads_now) w.script (length seats) (Err a) → IsUntouched o seats left → DebugAnswers w o seats left a
unscripted (answer.Refused r) w o seats left h untouched = ((Err r, h, refl), untouched)
unscripted (answer.ReadFault name) w o seats left h untouched = (h.0, inl h.1, untouched)
unscripted answer.NoMemory w o seats left h untouched = untouched
unscripted answer.Done w o seats left h untouched = absurd h
unscripted (answer.WriteFault name) w o seats left h untouched = absurd h
unscripted answer.SinkFault w o seats left h untouched = absurd h
unscripted (answer.Stopped why) w o seats left h untouched = absurd h

-- ---- the session

pub unopened : (e : ImageEnd) (w : DebugWords) (commands : List Command) (o : Outside) (seats left : List Seat)
    → IsUnopened w.image w.memory w.rom o.before (Rose o.reads o.reads_now) seats e → IsUntouched o seats left
    → SessionAnswers w commands o seats left (image_answer e)
unopened (end.Refused r) w commands o seats left h untouched = (h, untouched)
unopened (end.Failed name) w commands o seats left h untouched = (h.0, h.1, untouched)
unopened end.NoMemory w commands o seats left h untouched = untouched

pub session_told : (how : DebugEnd) (w : DebugWords) (commands : List Command) (o : Outside) (seats left : List Seat)
    → HasSession w commands how o seats left → SessionAnswers w commands o seats left (session_answer how)
session_told debug.Ended w commands o seats left h = h
session_told debug.Sink w commands o seats left h =
    let s = h.session in
    let beginning = cut_off_is_a_beginning commands (opened s.core h.begin) s.core' s.end o.printed o.prints o.faults o.faults_now s.debugged in
    (beginning.2, h)

-- ---- reads one behind the other

script_more : (told : Option Files) (P Q : Type 0) (file : List ℕ) (devices : ℕ) (script : Result (List Command) Refusal) → (P → Q)
    → IsScript told P file devices script → IsScript told Q file devices script
script_more None P Q file devices script more (inl given) = inl given
script_more None P Q file devices script more (inr (is, p)) = inr (is, more p)
script_more (Some files) P Q file devices script more h = h

read_more : (told : Option Files) (P Q : Type 0) (words : RunImage) (read : Result Image Refusal) → (P → Q)
    → IsRead told P words read → IsRead told Q words read
read_more None P Q words read more (inl given) = inl given
read_more None P Q words read more (inr (name, is, p, of)) = inr (name, is, more p, of)
read_more (Some files) P Q words read more h = h

refusal_more : (told : Option Files) (P Q : Type 0) (words : RunImage) (memory rom : List Bank) (seats : List Seat) (r : Refusal) → (P → Q)
    → IsFirstRefusal words memory rom told P seats r → IsFirstRefusal words memory rom told Q seats r
refusal_more told P Q words memory rom seats r more (read, is, refusal) = (read, read_more told P Q words read more is, refusal)

open_more : (told : Option Files) (P Q : Type 0) (words : RunImage) (memory rom : List Bank) (seats : List Seat) (image : Image) (s : State) → (P → Q)
    → IsOpen words memory rom told P seats image s → IsOpen words memory rom told Q seats image s
open_more told P Q words memory rom seats image s more h = record { read_so = read_more told P Q words (Ok image) more h.read_so; filled = h.filled }

-- the session behind a script, whose read was before those of the image
module _ (w : DebugWords) (commands : List Command) (before after : Option Files) (printed prints : Option (List ℕ))
    (reads mid reads_now writes writes_mid writes_now faults faults_now : ℕ) (seats left : List Seat) where
  abbrev outer : Outside
  outer = outside_of before after printed prints reads reads_now writes writes_now faults faults_now

  abbrev inner : Outside
  inner = outside_of before after printed prints mid reads_now writes_mid writes_now faults faults_now

  session_more : reads ≤ mid → (how : DebugEnd) → HasSession w commands how inner seats left → HasSession w commands how outer seats left
  session_more le how h = record {
    image = h.image;
    begin = h.begin;
    is_open = open_more before (Rose mid reads_now) (Rose reads reads_now) w.image w.memory w.rom seats h.image h.begin
        (λ rose. omega (arith, le, rose)) h.is_open;
    session = h.session;
    files = h.files;
  }

  module _ (first : reads ≤ mid) (last : mid ≤ reads_now) (script : ScriptIs before (Rose reads mid) w.script (length seats) (Ok commands)) where
    script_so : IsScript before (Rose reads reads_now) w.script (length seats) (Ok commands)
    script_so = script_more before (Rose reads mid) (Rose reads reads_now) w.script (length seats) (Ok commands) (λ rose. omega (arith, last, rose)) script.0

    debugged : (how : DebugEnd) → HasSession w commands how inner seats left → HasDebugged w how outer seats left
    debugged how h = record { commands = commands; script_so = script_so; script = script.1; session = session_more first how h }

    untouched : IsUntouched inner seats left → IsUntouched outer seats left
    untouched h = record { outside = record { files = h.outside.files; sink = h.outside.sink }; devices = h.devices }

    pub behind_script : (a : Answer) → SessionAnswers w commands inner seats left a → DebugAnswers w outer seats left a
    behind_script answer.Done h = debugged debug.Ended h
    behind_script (answer.Refused r) h =
        let refusal = refusal_more before (Rose mid reads_now) (Rose reads reads_now) w.image w.memory w.rom seats r (λ rose. omega (arith, first, rose)) h.0 in
        ((Ok commands, script_so, refusal), untouched h.1)
    behind_script (answer.ReadFault name) h = (omega (arith, first, h.0), inr (commands, script_so, h.1), untouched h.2)
    behind_script answer.SinkFault h = (h.0, debugged debug.Sink h.1)
    behind_script answer.NoMemory h = untouched h
    behind_script (answer.WriteFault name) h = absurd h
    behind_script (answer.Stopped why) h = absurd h
