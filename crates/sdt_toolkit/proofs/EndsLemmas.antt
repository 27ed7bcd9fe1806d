-- What each answer leaves, by its command.
use Rattle.std.proofs.Common.{◌≡◌, ℕ, List, [], ◌∷◌, Bool, true, false, Result, Ok, Err, refl, sym, subst}
use Rattle.sdt_fault.specs.declared.answer.Answer.{Answer}
use Rattle.sdt_fault.specs.declared.answer.Answer.TheVariants as answer
use Rattle.sdt_fault.specs.declared.refusal.Refusal.{Refusal}
use Rattle.sdt_outside.specs.Counts.{Rose}
use Rattle.sdt_outside.specs.Files.{Files}
use Rattle.arm7_bus.specs.Seats.{Seat}
use Rattle.tool_words.specs.declared.command.BurnForm.{BurnForm}
use Rattle.tool_words.specs.declared.command.Command.{Command}
use Rattle.tool_words.specs.declared.command.Command.TheVariants as command
use Rattle.tool_words.specs.declared.command.LinkWords.{LinkWords}
use Rattle.tool_words.specs.declared.command.ReportWords.{ReportWords}
use Rattle.tool_words.specs.declared.command.RunWords.{RunWords}
use Rattle.tool_words.specs.Commands.{command_of}
use Rattle.tool_answers.specs.Outcomes.{Outcome, Outside, Answers, IsAsked, OfAll, OfOne, Says}
use Rattle.tool_library.specs.Libraries.{created, creates, listed, lists, extracted, extracts}
use Rattle.tool_library.specs.Lists.{listing_of}
use Rattle.tool_library.specs.Lists as listing
use Rattle.tool_run.specs.Burns.{BurnAnswers}
use Rattle.tool_run.specs.Runs.{RunAnswers}
use Rattle.sdt_toolkit.specs.Commands.{Commanded, Ends, IsFirst, RefusesWords}
use Rattle.sdt_toolkit.specs.Kits.{KitAnswers}
use Rattle.sdt_toolkit.specs.Links.{LinkAnswers, WordsAsk}
use Rattle.sdt_toolkit.specs.Reads.{reads_of}
use Rattle.sdt_toolkit.specs.Reports.{ReportAnswers, ReportAsked}
use Rattle.sdt_toolkit.specs.Sources.{AssemblyAnswers, SourceAsks}
use Rattle.sdt_toolkit.proofs.BigClauses.{big_ends}
use Rattle.sdt_toolkit.proofs.DebugClauses.{debug_ends}

module _ (x : Result Command ℕ) (o : Outside) (seats : List Seat) where
  says_ends : (asked : Result Outcome Refusal) (inputs : List (List ℕ)) → ((r : Refusal) → asked ≡ Err r → IsFirst x (reads_of o) seats r)
      → (a : Answer) → Says asked inputs o a → Ends x o seats seats a
  says_ends asked inputs first answer.Done h = tt
  says_ends asked inputs first (answer.Refused r) h = (first r h.0, record { outside = h.1; devices = refl })
  says_ends asked inputs first (answer.ReadFault name) h = (h.0, record { outside = h.2; devices = refl })
  says_ends asked inputs first (answer.WriteFault name) h = (h.0, h.2, refl)
  says_ends asked inputs first answer.SinkFault h = h.0
  says_ends asked inputs first (answer.Stopped why) h = absurd h
  says_ends asked inputs first answer.NoMemory h = tt

  answers_end : (judge : Files → Result Outcome Refusal) (some_ask : Result Outcome Refusal → Type 0) (inputs : List (List ℕ))
      → ((r : Refusal) → IsAsked judge some_ask o.before inputs (Rose o.reads o.reads_now) (Err r) → IsFirst x (reads_of o) seats r)
      → (a : Answer) → Answers judge some_ask inputs o a → Ends x o seats seats a
  answers_end judge some_ask inputs first a h =
      says_ends h.0 inputs (λ r e. first r (subst (IsAsked judge some_ask o.before inputs (Rose o.reads o.reads_now)) e h.1)) a h.2

assembly_ends : (name output : List ℕ) (o : Outside) (seats : List Seat) (a : Answer) → AssemblyAnswers name output o a
    → Ends (Ok (command.Assemble name output)) o seats seats a
assembly_ends name output o seats answer.Done h = tt
assembly_ends name output o seats (answer.Refused r) h = (subst (SourceAsks (reads_of o) name output) h.2.0 h.1, record { outside = h.2.1; devices = refl })
assembly_ends name output o seats (answer.ReadFault q) h = (h.0, record { outside = h.2; devices = refl })
assembly_ends name output o seats (answer.WriteFault q) h = (h.2.0, h.2.2, refl)
assembly_ends name output o seats answer.SinkFault h = h.2.0
assembly_ends name output o seats (answer.Stopped why) h = absurd h.2
assembly_ends name output o seats answer.NoMemory h = tt

-- of a link and of a build, which ask for the same where no sources are taken
link_ends : (x : Result Command ℕ) (sources : Bool) (w : LinkWords) (o : Outside) (seats : List Seat)
    → ((r : Refusal) → WordsAsk (reads_of o) sources w (Err r) → IsFirst x (reads_of o) seats r) → (a : Answer) → LinkAnswers sources w o a → Ends x o seats seats a
unfolding LinkAnswers
link_ends x sources w o seats first answer.Done h = tt
link_ends x sources w o seats first (answer.Refused r) h = (first r (subst (WordsAsk (reads_of o) sources w) h.2.0 h.1), record { outside = h.2.1; devices = refl })
link_ends x sources w o seats first (answer.ReadFault q) h = (h.0, record { outside = h.2; devices = refl })
link_ends x sources w o seats first (answer.WriteFault q) h = (h.2.0, h.2.2, refl)
link_ends x sources w o seats first answer.SinkFault h = h.2.0
link_ends x sources w o seats first (answer.Stopped why) h = absurd h.2
link_ends x sources w o seats first answer.NoMemory h = tt

report_ends : (w : ReportWords) (o : Outside) (seats : List Seat) (a : Answer) → ReportAnswers w o a → Ends (Ok (command.Report w)) o seats seats a
unfolding ReportAnswers
report_ends w o seats answer.Done h = tt
report_ends w o seats (answer.Refused r) h = (subst (ReportAsked (reads_of o) w) h.2.0 h.1, record { outside = h.2.1; devices = refl })
report_ends w o seats (answer.ReadFault q) h = (h.0, record { outside = h.2; devices = refl })
report_ends w o seats (answer.WriteFault q) h = (h.2.0, h.2.2, refl)
report_ends w o seats answer.SinkFault h = h.2.0
report_ends w o seats (answer.Stopped why) h = absurd h.2
report_ends w o seats answer.NoMemory h = tt

kit_ends : (output : List ℕ) (acknowledge : ℕ) (o : Outside) (seats : List Seat) (a : Answer) → KitAnswers output acknowledge o a
    → Ends (Ok (command.InterruptKit output acknowledge)) o seats seats a
kit_ends output acknowledge o seats answer.Done h = tt
kit_ends output acknowledge o seats (answer.Refused r) h = absurd h.0
kit_ends output acknowledge o seats (answer.ReadFault q) h = absurd h.0
kit_ends output acknowledge o seats (answer.WriteFault q) h = (h.0.1, h.1, refl)
kit_ends output acknowledge o seats answer.SinkFault h = absurd h.0
kit_ends output acknowledge o seats (answer.Stopped why) h = absurd h.0
kit_ends output acknowledge o seats answer.NoMemory h = tt

burn_ends : (f : BurnForm) (file output : List ℕ) (o : Outside) (seats : List Seat) (a : Answer) → BurnAnswers f file output o a
    → Ends (Ok (command.Burn f file output)) o seats seats a
burn_ends f file output o seats answer.Done h = tt
burn_ends f file output o seats (answer.Refused r) h = ((h.read, h.read_so, h.says.0), record { outside = h.says.1; devices = refl })
burn_ends f file output o seats (answer.ReadFault q) h = (h.says.0, record { outside = h.says.2; devices = refl })
burn_ends f file output o seats (answer.WriteFault q) h = (h.says.0, h.says.2, refl)
burn_ends f file output o seats answer.SinkFault h = h.says.0
burn_ends f file output o seats (answer.Stopped why) h = absurd h.says
burn_ends f file output o seats answer.NoMemory h = tt

words_end : (place : ℕ) (o : Outside) (seats : List Seat) (a : Answer) → RefusesWords place o a → Ends (Err place) o seats seats a
words_end place o seats answer.Done h = absurd h
words_end place o seats (answer.Refused r) h = (h.0, record { outside = h.1; devices = refl })
words_end place o seats (answer.ReadFault q) h = absurd h
words_end place o seats (answer.WriteFault q) h = absurd h
words_end place o seats answer.SinkFault h = absurd h
words_end place o seats (answer.Stopped why) h = absurd h
words_end place o seats answer.NoMemory h = tt

run_ends : (run : RunWords) (o : Outside) (seats left : List Seat) (a : Answer) → RunAnswers run o seats left a → Ends (Ok (command.Run run)) o seats left a
run_ends run o seats left answer.Done h = tt
run_ends run o seats left (answer.Refused r) h = ((h.read, h.read_so, h.says.0), h.says.1)
run_ends run o seats left (answer.ReadFault q) h = (h.says.0, h.says.2)
run_ends run o seats left (answer.WriteFault q) h = absurd h.says
run_ends run o seats left answer.SinkFault h = h.says.ran.is_run.runs.chokes.counted
run_ends run o seats left (answer.Stopped why) h = refl
run_ends run o seats left answer.NoMemory h = tt

still : (x : Result Command ℕ) (o : Outside) (seats left : List Seat) (a : Answer) → left ≡ seats → Ends x o seats seats a → Ends x o seats left a
still x o seats left a e h = subst (λ (l : List Seat). Ends x o seats l a) (sym e) h

command_ends : (x : Result Command ℕ) (o : Outside) (seats left : List Seat) (a : Answer) → Commanded x o seats left a → Ends x o seats left a
unfolding Commanded
command_ends (Err place) o seats left a h = still (Err place) o seats left a h.1 (words_end place o seats a h.0)
command_ends (Ok (command.Assemble source output)) o seats left a h = still (Ok (command.Assemble source output)) o seats left a h.1 (assembly_ends source output o seats a h.0)
command_ends (Ok (command.CreateLibrary library objects)) o seats left a h =
    let x = Ok (command.CreateLibrary library objects) in
    still x o seats left a h.1 (answers_end x o seats (created library objects) (OfAll (creates library objects) objects) objects (λ r k. k) a h.0)
command_ends (Ok (command.ListMembers library)) o seats left a h =
    let x = Ok (command.ListMembers library) in
    still x o seats left a h.1 (answers_end x o seats (listed library) (OfOne (lists library)) (library ∷ []) (λ r k. k) a h.0)
command_ends (Ok (command.ExtractMember library member output)) o seats left a h =
    let x = Ok (command.ExtractMember library member output) in
    still x o seats left a h.1 (answers_end x o seats (extracted library member output) (OfOne (extracts library member output)) (library ∷ []) (λ r k. k) a h.0)
command_ends (Ok (command.List file)) o seats left a h =
    let x = Ok (command.List file) in
    still x o seats left a h.1 (answers_end x o seats (listing_of file) (OfOne (listing.lists file)) (file ∷ []) (λ r k. k) a h.0)
command_ends (Ok (command.Run run)) o seats left a h = run_ends run o seats left a h
command_ends (Ok (command.Link words)) o seats left a h =
    let x = Ok (command.Link words) in still x o seats left a h.1 (link_ends x false words o seats (λ r k. k) a h.0)
command_ends (Ok (command.Build words)) o seats left a h =
    let x = Ok (command.Build words) in still x o seats left a h.1 (link_ends x true words o seats (λ r k. k) a h.0)
command_ends (Ok (command.Report words)) o seats left a h = still (Ok (command.Report words)) o seats left a h.1 (report_ends words o seats a h.0)
command_ends (Ok (command.InterruptKit output acknowledge)) o seats left a h =
    still (Ok (command.InterruptKit output acknowledge)) o seats left a h.1 (kit_ends output acknowledge o seats a h.0)
command_ends (Ok (command.Debug words)) o seats left a h = debug_ends words o seats left a h
command_ends (Ok (command.MakeBig count output)) o seats left a h = big_ends count output o seats left a h
command_ends (Ok (command.Burn f file output)) o seats left a h =
    still (Ok (command.Burn f file output)) o seats left a h.1 (burn_ends f file output o seats a h.0)

pub ends_of : (words : List (List ℕ)) (o : Outside) (seats left : List Seat) (a : Answer) → Commanded (command_of words) o seats left a
    → Ends (command_of words) o seats left a
ends_of words o seats left a h = command_ends (command_of words) o seats left a h
