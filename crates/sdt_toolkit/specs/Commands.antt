-- Which command words ask for, and what its answer says of the input and leaves of store and sink. This project's.
use Rattle.std.specs.Prelude.{◌≡◌, ℕ, List, [], ◌∷◌, Bool, true, false, Result, Ok, Err}
use Rattle.sdt_fault.specs.declared.answer.Answer.{Answer}
use Rattle.sdt_fault.specs.declared.answer.Answer.TheVariants as answer
use Rattle.sdt_fault.specs.declared.refusal.Refusal.{Refusal}
use Rattle.sdt_fault.specs.declared.refusal.Refusal.TheVariants.{BadWords}
use Rattle.sdt_outside.specs.Counts.{Rose}
use Rattle.tool_words.specs.declared.command.Command.{Command}
use Rattle.tool_words.specs.declared.command.Command.TheVariants as command
use Rattle.tool_words.specs.declared.command.RunImage.TheVariants as image
use Rattle.tool_words.specs.declared.command.WordsFault.{WordsFault}
use Rattle.tool_words.specs.declared.command.WordsFault.TheVariants as fault
use Rattle.run_opening.specs.declared.image.Image.{Image}
use Rattle.tool_answers.specs.Outcomes.{Outside, IsAsked, IsLeft, Answers, OfAll, OfOne}
use Rattle.sdt_toolkit.specs.Big.{BigAnswers, IsMeeting}
use Rattle.sdt_toolkit.specs.Debugging.{DebugAnswers, IsDebugRefusal}
use Rattle.sdt_toolkit.specs.Kits.{KitAnswers}
use Rattle.sdt_toolkit.specs.Links.{LinkAnswers, WordsAsk}
use Rattle.sdt_toolkit.specs.Reads.{Reads, HasFailed, reads_of}
use Rattle.sdt_toolkit.specs.Reports.{ReportAnswers, ReportAsked}
use Rattle.sdt_toolkit.specs.Sources.{AssemblyAnswers, SourceAsks}
use Rattle.tool_library.specs.Libraries.{created, creates, listed, lists, extracted, extracts}
use Rattle.arm7_bus.specs.Seats.{Seat}
use Rattle.tool_library.specs.Lists.{listing_of}
use Rattle.tool_library.specs.Lists as listing
use Rattle.tool_run.specs.Burns.{BurnAnswers, asked_by}
use Rattle.tool_run.specs.Images.{IsRead}
use Rattle.tool_run.specs.Openings.{IsFirstRefusal}
use Rattle.tool_run.specs.Runs.{IsUntouched, RunAnswers}

-- a word breaks a rule
abbrev pub RefusesWords : ℕ → Outside → Answer → Type 0
RefusesWords place o answer.Done = ⊥
RefusesWords place o (answer.Refused r) = (r ≡ BadWords place) × IsLeft o
RefusesWords place o (answer.ReadFault name) = ⊥
RefusesWords place o (answer.WriteFault name) = ⊥
RefusesWords place o answer.SinkFault = ⊥
RefusesWords place o (answer.Stopped stop) = ⊥
RefusesWords place o answer.NoMemory = IsLeft o

-- the answer to a command, or to words that break a rule, over devices, which are left so; `run`, `debug` and `make-big` alone touch
-- them
unfoldable pub Commanded : Result Command ℕ → Outside → List Seat → List Seat → Answer → Type 0
Commanded (Err place) o seats left a = RefusesWords place o a × (left ≡ seats)
Commanded (Ok (command.Assemble source output)) o seats left a = AssemblyAnswers source output o a × (left ≡ seats)
Commanded (Ok (command.CreateLibrary library objects)) o seats left a =
    Answers (created library objects) (OfAll (creates library objects) objects) objects o a × (left ≡ seats)
Commanded (Ok (command.ListMembers library)) o seats left a =
    Answers (listed library) (OfOne (lists library)) (library ∷ []) o a × (left ≡ seats)
Commanded (Ok (command.ExtractMember library member output)) o seats left a =
    Answers (extracted library member output) (OfOne (extracts library member output)) (library ∷ []) o a × (left ≡ seats)
Commanded (Ok (command.List file)) o seats left a = Answers (listing_of file) (OfOne (listing.lists file)) (file ∷ []) o a × (left ≡ seats)
Commanded (Ok (command.Run run)) o seats left a = RunAnswers run o seats left a
Commanded (Ok (command.Debug words)) o seats left a = DebugAnswers words o seats left a
Commanded (Ok (command.Link words)) o seats left a = LinkAnswers false words o a × (left ≡ seats)
Commanded (Ok (command.Build words)) o seats left a = LinkAnswers true words o a × (left ≡ seats)
Commanded (Ok (command.Report words)) o seats left a = ReportAnswers words o a × (left ≡ seats)
Commanded (Ok (command.InterruptKit output acknowledge)) o seats left a = KitAnswers output acknowledge o a × (left ≡ seats)
Commanded (Ok (command.MakeBig count output)) o seats left a = BigAnswers count output o seats left a
Commanded (Ok (command.Burn f file output)) o seats left a = BurnAnswers f file output o a × (left ≡ seats)

-- ---- refusals: the first defect of the words, then of the files and, for a run, a session and `make-big`, of the banks and devices

-- what a command refuses over what the store tells of its files, and over these devices
abbrev pub FirstOf : Command → Reads → List Seat → Refusal → Type 0
FirstOf (command.Assemble source output) s seats r = SourceAsks s source output (Err r)
FirstOf (command.CreateLibrary library objects) s seats r =
    IsAsked (created library objects) (OfAll (creates library objects) objects) s.told objects (HasFailed s) (Err r)
FirstOf (command.ListMembers library) s seats r =
    IsAsked (listed library) (OfOne (lists library)) s.told (library ∷ []) (HasFailed s) (Err r)
FirstOf (command.ExtractMember library member output) s seats r =
    IsAsked (extracted library member output) (OfOne (extracts library member output)) s.told (library ∷ []) (HasFailed s) (Err r)
FirstOf (command.List file) s seats r = IsAsked (listing_of file) (OfOne (listing.lists file)) s.told (file ∷ []) (HasFailed s) (Err r)
FirstOf (command.Run run) s seats r = IsFirstRefusal run.image run.memory run.rom s.told (HasFailed s) seats r
FirstOf (command.Debug words) s seats r = IsDebugRefusal words s.told (HasFailed s) seats r
FirstOf (command.Link words) s seats r = WordsAsk s false words (Err r)
FirstOf (command.Build words) s seats r = WordsAsk s true words (Err r)
FirstOf (command.Report words) s seats r = ReportAsked s words (Err r)
FirstOf (command.InterruptKit output acknowledge) s seats r = ⊥
FirstOf (command.MakeBig count output) s seats r = IsMeeting seats r
FirstOf (command.Burn f file output) s seats r =
    (read : Result Image Refusal) × IsRead s.told (HasFailed s) (image.Map file) read × (asked_by f output read ≡ Err r)

abbrev pub IsFirst : Result Command ℕ → Reads → List Seat → Refusal → Type 0
IsFirst (Err place) s seats r = r ≡ BadWords place
IsFirst (Ok c) s seats r = FirstOf c s seats r

-- the words ask for a run, of an image, by a script or of what is made
abbrev pub is_run : Result Command ℕ → Bool
is_run (Ok (command.Run run)) = true
is_run (Ok (command.Debug words)) = true
is_run (Ok (command.MakeBig count output)) = true
is_run other = false

-- the words ask for a text, or for a run, which may print or is told of in a line
abbrev pub may_print : Result Command ℕ → Bool
may_print (Ok (command.ListMembers library)) = true
may_print (Ok (command.List file)) = true
may_print (Ok (command.Report words)) = true
may_print (Ok (command.Run run)) = true
may_print (Ok (command.Debug words)) = true
may_print (Ok (command.MakeBig count output)) = true
may_print other = false

-- ---- what each answer says and leaves, whatever was asked for

-- a refusal is the first, and like a read fault leaves everything as it was; a fault is told only where the store or the sink
-- counted one, of a write with nothing printed; and a run alone stops
abbrev pub Ends : Result Command ℕ → Outside → List Seat → List Seat → Answer → Type 0
Ends x o seats left answer.Done = Unit {0}
Ends x o seats left (answer.Refused r) = IsFirst x (reads_of o) seats r × IsUntouched o seats left
Ends x o seats left (answer.ReadFault name) = Rose o.reads o.reads_now × IsUntouched o seats left
Ends x o seats left (answer.WriteFault name) = Rose o.writes o.writes_now × (o.prints ≡ o.printed) × (left ≡ seats)
Ends x o seats left answer.SinkFault = Rose o.faults o.faults_now
Ends x o seats left (answer.Stopped why) = is_run x ≡ true
Ends x o seats left answer.NoMemory = Unit {0}

-- the answer to words that ask for nothing
abbrev pub RefusedBy : WordsFault → Answer → Type 0
RefusedBy (fault.Place place) a = a ≡ answer.Refused (BadWords place)
RefusedBy fault.NoMemory a = a ≡ answer.NoMemory
