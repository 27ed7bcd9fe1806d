-- What the top call tells of `debug`: what each answer leaves, that it is refused exactly where there is a first defect, and what a
-- session is of the machine's runs.
use Rattle.std.proofs.Common.{◌≡◌, ℕ, List, length, Option, Some, Result, Ok, Err, sym, subst, ◌∙◌}
use Rattle.sdt_fault.specs.declared.answer.Answer.{Answer}
use Rattle.sdt_fault.specs.declared.answer.Answer.TheVariants as answer
use Rattle.sdt_fault.specs.declared.refusal.Refusal.{Refusal}
use Rattle.sdt_outside.specs.Counts.{Rose}
use Rattle.sdt_outside.specs.Files.{Files}
use Rattle.arm7_bus.specs.Seats.{Seat}
use Rattle.armsd_core.specs.declared.command.Command.{Command}
use Rattle.armsd_core.specs.declared.session.DebugEnd.{DebugEnd}
use Rattle.armsd_core.specs.declared.session.DebugEnd.TheVariants as debug
use Rattle.run_opening.specs.declared.image.Image.{Image}
use Rattle.tool_answers.specs.Outcomes.{Outside}
use Rattle.tool_words.specs.declared.command.Command.{Command as Asked}
use Rattle.tool_words.specs.declared.command.Command.TheVariants as command
use Rattle.tool_words.specs.declared.command.DebugWords.{DebugWords}
use Rattle.tool_words.specs.Commands.{command_of}
use Rattle.tool_run.specs.Images.{IsRead, image_of}
use Rattle.tool_run.specs.Openings.{IsRefusal}
use Rattle.sdt_toolkit.specs.Commands.{Commanded, Ends}
use Rattle.sdt_toolkit.specs.Debugging.{DebugAnswers, DebugsByRuns, HasDebugged, IsBehind, IsDebugRefusal, IsScript, script_from}
use Rattle.sdt_toolkit.specs.Exact.{IsCalm, IsRefusedBy}
use Rattle.sdt_toolkit.proofs.DebugRuns.{answer_runs}
use Rattle.sdt_toolkit.proofs.RunOnce.{no_refusal, refusal_once}

pub debug_ends : (w : DebugWords) (o : Outside) (seats left : List Seat) (a : Answer) → DebugAnswers w o seats left a
    → Ends (Ok (command.Debug w)) o seats left a
debug_ends w o seats left answer.Done h = tt
debug_ends w o seats left (answer.Refused r) h = h
debug_ends w o seats left (answer.ReadFault name) h = (h.0, h.2)
debug_ends w o seats left (answer.WriteFault name) h = absurd h
debug_ends w o seats left answer.SinkFault h = h.0
debug_ends w o seats left (answer.Stopped why) h = absurd h
debug_ends w o seats left answer.NoMemory h = tt

module _ (w : DebugWords) (o : Outside) (seats left : List Seat) (files : Files) (told : o.before ≡ Some files) where
  abbrev Failed : Type 0
  Failed = Rose o.reads o.reads_now

  abbrev Reads : Result (List Command) Refusal → Type 0
  Reads script = IsScript o.before Failed w.script (length seats) script

  abbrev Behind : Refusal → Result (List Command) Refusal → Type 0
  Behind r script = IsBehind w script o.before Failed seats r

  abbrev Defect : Refusal → Result Image Refusal → Type 0
  Defect r read = IsRefusal w.memory w.rom read seats r

  -- files that are told give one script and one image
  script_once : (x y : Result (List Command) Refusal) → Reads x → Reads y → x ≡ y
  script_once x y h k = by_files x h ∙ sym (by_files y k)
    where
      by_files : (z : Result (List Command) Refusal) → Reads z → z ≡ script_from w.script (length seats) files
      by_files z is = subst (λ (t : Option Files). IsScript t Failed w.script (length seats) z) told is

  image_once : (x y : Result Image Refusal) → IsRead o.before Failed w.image x → IsRead o.before Failed w.image y → x ≡ y
  image_once x y h k = by_files x h ∙ sym (by_files y k)
    where
      by_files : (z : Result Image Refusal) → IsRead o.before Failed w.image z → z ≡ image_of w.image files
      by_files z is = subst (λ (t : Option Files). IsRead t Failed w.image z) told is

  -- what was debugged has no defect
  debugged_fine : (how : DebugEnd) (r : Refusal) → HasDebugged w how o seats left → IsDebugRefusal w o.before Failed seats r → ⊥
  debugged_fine how r h (script, is, behind) =
      let image = h.session.image in
      let filled = h.session.is_open.filled in
      let (read, read_so, refusal) = subst (Behind r) (script_once script (Ok h.commands) is h.script_so) behind in
      let here = subst (Defect r) (image_once read (Ok image) read_so h.session.is_open.read_so) refusal in
      no_refusal w.memory w.rom seats filled.banks image r filled.are_banks filled.roomy here

  behind_once : (script : Result (List Command) Refusal) (p q : Refusal) → Behind p script → Behind q script → p ≡ q
  behind_once (Err found) p q h k = h ∙ sym k
  behind_once (Ok commands) p q (read, is, h) (other, is', k) =
      let here = subst (Defect q) (image_once other read is' is) k in
      refusal_once w.memory w.rom seats p q read h here

  once : (p q : Refusal) → IsDebugRefusal w o.before Failed seats p → IsDebugRefusal w o.before Failed seats q → p ≡ q
  once p q (script, is, h) (other, is', k) =
      let here = subst (Behind q) (script_once other script is' is) k in
      behind_once script p q h here

  pub debug_refused : IsCalm o → (r : Refusal) → IsDebugRefusal w o.before Failed seats r → (a : Answer) → DebugAnswers w o seats left a → IsRefusedBy r a
  debug_refused calm r first answer.Done h = absurd (debugged_fine debug.Ended r h first)
  debug_refused calm r first (answer.Refused q) h = once q r h.0 first
  debug_refused calm r first (answer.ReadFault name) h = absurd (calm.reads h.0)
  debug_refused calm r first (answer.WriteFault name) h = absurd h
  debug_refused calm r first answer.SinkFault h = absurd (calm.sink h.0)
  debug_refused calm r first (answer.Stopped why) h = absurd h
  debug_refused calm r first answer.NoMemory h = tt

-- ---- the clause of sessions

pub sessions_told : (words : List (List ℕ)) (o : Outside) (seats left : List Seat) (a : Answer) → Commanded (command_of words) o seats left a
    → DebugsByRuns (command_of words) o seats left a
unfolding Commanded
sessions_told words o seats left a commanded w is =
    answer_runs w o seats left a (subst (λ (x : Result Asked ℕ). Commanded x o seats left a) is commanded)
