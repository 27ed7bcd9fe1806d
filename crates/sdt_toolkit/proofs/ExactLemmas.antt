-- Over files that are told and where nothing fails, a command is refused exactly where there is a first defect.
use Rattle.std.proofs.Common.{◌≡◌, ℕ, List, [], ◌∷◌, Bool, true, false, Option, Some, Result, Ok, Err, sym, ap, subst, ◌∙◌}
use Rattle.sdt_fault.specs.declared.answer.Answer.{Answer}
use Rattle.sdt_fault.specs.declared.answer.Answer.TheVariants as answer
use Rattle.sdt_fault.specs.declared.refusal.Refusal.{Refusal}
use Rattle.sdt_fault.specs.declared.refusal.Refusal.TheVariants.{BadWords}
use Rattle.sdt_outside.specs.Counts.{Rose}
use Rattle.sdt_outside.specs.Files.{Files}
use Rattle.arm7_bus.specs.Seats.{Seat}
use Rattle.run_opening.specs.declared.image.Image.{Image}
use Rattle.tool_words.specs.declared.command.BurnForm.{BurnForm}
use Rattle.tool_words.specs.declared.command.Command.{Command}
use Rattle.tool_words.specs.declared.command.Command.TheVariants as command
use Rattle.tool_words.specs.declared.command.LinkWords.{LinkWords}
use Rattle.tool_words.specs.declared.command.ReportWords.{ReportWords}
use Rattle.tool_words.specs.declared.command.RunImage.TheVariants as image
use Rattle.tool_words.specs.declared.command.RunWords.{RunWords}
use Rattle.tool_words.specs.Commands.{command_of}
use Rattle.tool_answers.specs.Outcomes.{Answers, IsAsked, OfAll, OfOne, Outcome, Outside, Says}
use Rattle.tool_library.specs.Libraries.{created, creates, extracted, extracts, listed, lists}
use Rattle.tool_library.specs.Lists.{listing_of}
use Rattle.tool_library.specs.Lists as listing
use Rattle.tool_run.specs.Burns.{BurnAnswers, BurnSays, asked_by}
use Rattle.tool_run.specs.Images.{IsRead, image_of}
use Rattle.tool_run.specs.Openings.{IsRefusal}
use Rattle.tool_run.specs.Runs.{RunAnswers, RunSays}
use Rattle.sdt_toolkit.specs.Commands.{Commanded, Ends, FirstOf, IsFirst, RefusesWords}
use Rattle.sdt_toolkit.specs.Exact.{Exact, IsAccepted, IsCalm, IsRefusedBy}
use Rattle.sdt_toolkit.specs.Links.{LinkAnswers, OneLinkAsked, WordsAsk, files_read}
use Rattle.sdt_toolkit.specs.Reads.{reads_of}
use Rattle.sdt_toolkit.specs.Reports.{OneReportAsked, ReportAnswers, ReportAsked, report_reads}
use Rattle.sdt_toolkit.specs.Sources.{AssemblyAnswers, OneAsked, SourceAsks}
use Rattle.sdt_toolkit.proofs.BigClauses.{big_refused}
use Rattle.sdt_toolkit.proofs.DebugClauses.{debug_refused}
use Rattle.sdt_toolkit.proofs.EndsLemmas.{ends_of}
use Rattle.sdt_toolkit.proofs.RunOnce.{ran_fine, refusal_once}

-- ---- no first defect

accepted : (x : Result Command ℕ) (o : Outside) (seats left : List Seat) (a : Answer) → IsCalm o → Ends x o seats left a
    → ((r : Refusal) → IsFirst x (reads_of o) seats r → ⊥) → IsAccepted a
accepted x o seats left answer.Done calm h none = tt
accepted x o seats left (answer.Refused r) calm h none = none r h.0
accepted x o seats left (answer.ReadFault name) calm h none = calm.reads h.0
accepted x o seats left (answer.WriteFault name) calm h none = calm.writes h.0
accepted x o seats left answer.SinkFault calm h none = calm.sink h
accepted x o seats left (answer.Stopped why) calm h none = tt
accepted x o seats left answer.NoMemory calm h none = tt

-- ---- a first defect

not_both : (asked : Result Outcome Refusal) (r : Refusal) (out : Outcome) → asked ≡ Err r → asked ≡ Ok out → ⊥
not_both asked r out e f = let bad : ◌≡◌ {A = Result Outcome Refusal} (Err r) (Ok out) = sym e ∙ f in cc

one_refusal : (asked : Result Outcome Refusal) (r told : Refusal) → asked ≡ Err r → asked ≡ Err told → told ≡ r
one_refusal asked r told e f = let same : ◌≡◌ {A = Result Outcome Refusal} (Err told) (Err r) = sym f ∙ e in cc

says_refused : (asked : Result Outcome Refusal) (inputs : List (List ℕ)) (o : Outside) (r : Refusal) → IsCalm o → asked ≡ Err r
    → (a : Answer) → Says asked inputs o a → IsRefusedBy r a
says_refused asked inputs o r calm e answer.Done h = not_both asked r h.0 e h.1
says_refused asked inputs o r calm e (answer.Refused told) h = one_refusal asked r told e h.0
says_refused asked inputs o r calm e (answer.ReadFault name) h = absurd (calm.reads h.0)
says_refused asked inputs o r calm e (answer.WriteFault name) h = absurd (calm.writes h.0)
says_refused asked inputs o r calm e answer.SinkFault h = absurd (calm.sink h.0)
says_refused asked inputs o r calm e (answer.Stopped why) h = absurd h
says_refused asked inputs o r calm e answer.NoMemory h = tt

module _ (o : Outside) (files : Files) (told : o.before ≡ Some files) (calm : IsCalm o) (r : Refusal) where
  answers_refused : (judge : Files → Result Outcome Refusal) (some_ask : Result Outcome Refusal → Type 0) (inputs : List (List ℕ)) (a : Answer)
      → Answers judge some_ask inputs o a → IsAsked judge some_ask o.before inputs (Rose o.reads o.reads_now) (Err r) → IsRefusedBy r a
  answers_refused judge some_ask inputs a h first =
      let by_files : (asked : Result Outcome Refusal) → IsAsked judge some_ask o.before inputs (Rose o.reads o.reads_now) asked → asked ≡ judge files =
      λ asked k. subst (λ (t : Option Files). IsAsked judge some_ask t inputs (Rose o.reads o.reads_now) asked) told k in
      says_refused h.0 inputs o r calm (by_files h.0 h.1 ∙ sym (by_files (Err r) first)) a h.2

  assembly_refused : OneAsked → (name output : List ℕ) (a : Answer) → AssemblyAnswers name output o a → SourceAsks (reads_of o) name output (Err r) → IsRefusedBy r a
  assembly_refused law name output answer.Done h first = says_refused h.0 (name ∷ []) o r calm (law (reads_of o) name output files h.0 (Err r) told h.1 first) answer.Done h.2
  assembly_refused law name output (answer.Refused q) h first =
      says_refused h.0 (name ∷ []) o r calm (law (reads_of o) name output files h.0 (Err r) told h.1 first) (answer.Refused q) h.2
  assembly_refused law name output (answer.ReadFault q) h first = absurd (calm.reads h.0)
  assembly_refused law name output (answer.WriteFault q) h first = absurd (calm.writes h.2.0)
  assembly_refused law name output answer.SinkFault h first = absurd (calm.sink h.2.0)
  assembly_refused law name output (answer.Stopped why) h first = absurd h.2
  assembly_refused law name output answer.NoMemory h first = tt

  link_refused : OneLinkAsked → (sources : Bool) (w : LinkWords) (a : Answer) → LinkAnswers sources w o a → WordsAsk (reads_of o) sources w (Err r) → IsRefusedBy r a
  unfolding LinkAnswers
  link_refused law sources w answer.Done h first = says_refused h.0 (files_read w) o r calm (law (reads_of o) sources w files h.0 (Err r) told h.1 first) answer.Done h.2
  link_refused law sources w (answer.Refused q) h first = says_refused h.0 (files_read w) o r calm (law (reads_of o) sources w files h.0 (Err r) told h.1 first) (answer.Refused q) h.2
  link_refused law sources w (answer.ReadFault q) h first = absurd (calm.reads h.0)
  link_refused law sources w (answer.WriteFault q) h first = absurd (calm.writes h.2.0)
  link_refused law sources w answer.SinkFault h first = absurd (calm.sink h.2.0)
  link_refused law sources w (answer.Stopped why) h first = absurd h.2
  link_refused law sources w answer.NoMemory h first = tt

  report_refused : OneReportAsked → (w : ReportWords) (a : Answer) → ReportAnswers w o a → ReportAsked (reads_of o) w (Err r) → IsRefusedBy r a
  unfolding ReportAnswers
  report_refused law w answer.Done h first = says_refused h.0 (report_reads w) o r calm (law (reads_of o) w files h.0 (Err r) told h.1 first) answer.Done h.2
  report_refused law w (answer.Refused q) h first = says_refused h.0 (report_reads w) o r calm (law (reads_of o) w files h.0 (Err r) told h.1 first) (answer.Refused q) h.2
  report_refused law w (answer.ReadFault q) h first = absurd (calm.reads h.0)
  report_refused law w (answer.WriteFault q) h first = absurd (calm.writes h.2.0)
  report_refused law w answer.SinkFault h first = absurd (calm.sink h.2.0)
  report_refused law w (answer.Stopped why) h first = absurd h.2
  report_refused law w answer.NoMemory h first = tt

  run_refused : (run : RunWords) (seats left : List Seat) (a : Answer) → RunAnswers run o seats left a → FirstOf (command.Run run) (reads_of o) seats r → IsRefusedBy r a
  run_refused run seats left a h first = go a (subst (λ (x : Result Image Refusal). RunSays run x o seats left a) same h.says)
    where
      read : Result Image Refusal
      read = first.0

      by_files : (x : Result Image Refusal) → IsRead o.before (Rose o.reads o.reads_now) run.image x → x ≡ image_of run.image files
      by_files x k = subst (λ (t : Option Files). IsRead t (Rose o.reads o.reads_now) run.image x) told k

      same : h.read ≡ read
      same = by_files h.read h.read_so ∙ sym (by_files read first.1)

      refusal : IsRefusal run.memory run.rom read seats r
      refusal = first.2

      go : (b : Answer) → RunSays run read o seats left b → IsRefusedBy r b
      go answer.Done k = ran_fine run read o seats left _ r k refusal
      go (answer.Refused q) k = refusal_once run.memory run.rom seats q r read k.0 refusal
      go (answer.ReadFault name) k = absurd (calm.reads k.0)
      go (answer.WriteFault name) k = absurd k
      go answer.SinkFault k = absurd (ran_fine run read o seats left _ r k refusal)
      go (answer.Stopped why) k = ran_fine run read o seats left why r k.1 refusal
      go answer.NoMemory k = tt

  burn_refused : (f : BurnForm) (file output : List ℕ) (seats : List Seat) (a : Answer) → BurnAnswers f file output o a
      → FirstOf (command.Burn f file output) (reads_of o) seats r → IsRefusedBy r a
  burn_refused f file output seats a h first = go a h.says
    where
      by_files : (x : Result Image Refusal) → IsRead o.before (Rose o.reads o.reads_now) (image.Map file) x → x ≡ image_of (image.Map file) files
      by_files x k = subst (λ (t : Option Files). IsRead t (Rose o.reads o.reads_now) (image.Map file) x) told k

      asked : Result Outcome Refusal
      asked = asked_by f output h.read

      is : asked ≡ Err r
      is = ap (asked_by f output) (by_files h.read h.read_so ∙ sym (by_files first.0 first.1)) ∙ first.2

      go : (b : Answer) → BurnSays file asked o b → IsRefusedBy r b
      go answer.Done k = says_refused asked [] o r calm is answer.Done k
      go (answer.Refused q) k = says_refused asked [] o r calm is (answer.Refused q) k
      go (answer.ReadFault name) k = absurd (calm.reads k.0)
      go (answer.WriteFault name) k = absurd (calm.writes k.0)
      go answer.SinkFault k = absurd (calm.sink k.0)
      go (answer.Stopped why) k = absurd k
      go answer.NoMemory k = tt

  words_refused : (place : ℕ) (a : Answer) → RefusesWords place o a → r ≡ BadWords place → IsRefusedBy r a
  words_refused place answer.Done h first = absurd h
  words_refused place (answer.Refused q) h first = h.0 ∙ sym first
  words_refused place (answer.ReadFault name) h first = absurd h
  words_refused place (answer.WriteFault name) h first = absurd h
  words_refused place answer.SinkFault h first = absurd h
  words_refused place (answer.Stopped why) h first = absurd h
  words_refused place answer.NoMemory h first = tt

  refused : OneAsked → OneLinkAsked → OneReportAsked → (x : Result Command ℕ) (seats left : List Seat) (a : Answer) → Commanded x o seats left a → IsFirst x (reads_of o) seats r → IsRefusedBy r a
  unfolding Commanded
  refused one link reported (Err place) seats left a h first = words_refused place a h.0 first
  refused one link reported (Ok (command.Assemble source output)) seats left a h first = assembly_refused one source output a h.0 first
  refused one link reported (Ok (command.CreateLibrary library objects)) seats left a h first =
      answers_refused (created library objects) (OfAll (creates library objects) objects) objects a h.0 first
  refused one link reported (Ok (command.ListMembers library)) seats left a h first = answers_refused (listed library) (OfOne (lists library)) (library ∷ []) a h.0 first
  refused one link reported (Ok (command.ExtractMember library member output)) seats left a h first =
      answers_refused (extracted library member output) (OfOne (extracts library member output)) (library ∷ []) a h.0 first
  refused one link reported (Ok (command.List file)) seats left a h first = answers_refused (listing_of file) (OfOne (listing.lists file)) (file ∷ []) a h.0 first
  refused one link reported (Ok (command.Run run)) seats left a h first = run_refused run seats left a h first
  refused one link reported (Ok (command.Debug words)) seats left a h first = debug_refused words o seats left files told calm r first a h
  refused one link reported (Ok (command.Link words)) seats left a h first = link_refused link false words a h.0 first
  refused one link reported (Ok (command.Build words)) seats left a h first = link_refused link true words a h.0 first
  refused one link reported (Ok (command.Report words)) seats left a h first = report_refused reported words a h.0 first
  refused one link reported (Ok (command.InterruptKit output acknowledge)) seats left a h first = absurd first
  refused one link reported (Ok (command.MakeBig count output)) seats left a h first = big_refused count output o seats left r calm first a h
  refused one link reported (Ok (command.Burn f file output)) seats left a h first = burn_refused f file output seats a h.0 first

-- ---- the clause of the top call

pub exact_of : OneAsked → OneLinkAsked → OneReportAsked → (words : List (List ℕ)) (o : Outside) (seats left : List Seat) (a : Answer)
    → Commanded (command_of words) o seats left a → Exact (command_of words) o seats a
exact_of one link reported words o seats left a h files told calm = record {
  accepted = accepted (command_of words) o seats left a calm (ends_of words o seats left a h);
  refused = λ r first. refused o files told calm r one link reported (command_of words) seats left a h first;
}
