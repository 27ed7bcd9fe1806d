-- How a run of an image starts: its first steps are the startup code's, which lead to the program's entry; by which steps it runs,
-- and what it leaves of devices. This project's.
use Rattle.std.specs.Prelude.{◌≡◌, ◌⊎◌, ℕ, ◌+◌, ◌<◌, ◌≤◌, Bool, true, false, List, [], ◌++◌, length, take, Option, Some, None, Result, Ok}
use Rattle.sdt_word.specs.Numbers.{flag}
use Rattle.sdt_fault.specs.declared.answer.Answer.{Answer}
use Rattle.sdt_fault.specs.declared.answer.Answer.TheVariants as answer
use Rattle.sdt_fault.specs.declared.answer.Stop.{Stop}
use Rattle.sdt_fault.specs.declared.answer.Stop.TheVariants as stop
use Rattle.sdt_fault.specs.declared.refusal.Refusal.{Refusal}
use Rattle.sdt_outside.specs.Counts.{Rose}
use Rattle.sdt_outside.specs.Files.{Files, content}
use Rattle.sdt_outside.specs.Sinks.{Got}
use Rattle.arm7_model.specs.declared.state.ArmState.{ArmState}
use Rattle.arm7_model.specs.Outcomes.{Stepped}
use Rattle.arm7_model.specs.Runs.{EachStep, accesses_of}
use Rattle.arm7_bus.specs.declared.memory.Bank.{Bank}
use Rattle.arm7_bus.specs.Seats.{Seat}
use Rattle.arm7_bus.specs.States.{State, bank_has, protected_at}
use Rattle.arm7_bus.specs.Touches.{pages_touched}
use Rattle.arm7_bus.specs.WholeWords.{AreWholeBanks, AreWholeSeats}
use Rattle.arm7_transfers.specs.Boards.{board_of, over}
use Rattle.run_laws.specs.Devices.{AreOffDevices, lines_for, ticked_for, touches_of}
use Rattle.run_laws.specs.Steps.{AreMade, steps_made}
use Rattle.run_opening.specs.declared.image.Image.{Image as RunImage}
use Rattle.run_opening.specs.Openings.{loaded}
use Rattle.boot_code.specs.Aif.{aif_written, file_at}
use Rattle.boot_code.specs.Boots.{BootSteps, Boots, ByteMap, covers}
use Rattle.boot_code.specs.Maps.{map_of}
use Rattle.link_model.specs.declared.images.Image.{Image}
use Rattle.chunk_file.specs.Grammar.{AreBytes}
use Rattle.place_model.specs.declared.scatter.Kind.{Kind}
use Rattle.place_model.specs.declared.scatter.Kind.TheVariants as kind
use Rattle.aif_image.specs.Files.{aif_file, aif_record, parts_size, zero_size}
use Rattle.bin_image.specs.Fields.{lacks}
use Rattle.bin_image.specs.Files.{load_files, map_name}
use Rattle.elf_image.specs.declared.records.Elf.{Elf}
use Rattle.elf_image.specs.Checks.{ReadsElf}
use Rattle.elf_image.specs.declared.tables.Tables.{Tables}
use Rattle.elf_image.specs.Files.{elf_file}
use Rattle.elf_image.specs.Tables.{named_file}
use Rattle.tool_answers.specs.Outcomes.{Outside}
use Rattle.tool_words.specs.declared.command.Command.{Command}
use Rattle.tool_words.specs.declared.command.Command.TheVariants as command
use Rattle.tool_words.specs.declared.command.Container.{Container}
use Rattle.tool_words.specs.declared.command.Container.TheVariants as container
use Rattle.tool_words.specs.declared.command.LinkWords.{LinkWords}
use Rattle.tool_words.specs.declared.command.RunImage.{RunImage as Named}
use Rattle.tool_words.specs.declared.command.RunImage.TheVariants as image
use Rattle.tool_words.specs.declared.command.RunWords.{RunWords}
use Rattle.tool_words.specs.Commands.{ComeTogether, command_of}
use Rattle.tool_run.specs.Aifs.{loaded_aif}
use Rattle.tool_run.specs.Elfs.{loaded_elf}
use Rattle.tool_run.specs.Images.{IsRead, has_zero}
use Rattle.tool_run.specs.Openings.{AreBanks}
use Rattle.tool_run.specs.Runs.{Ran, RunAnswers}
use Rattle.sdt_toolkit.specs.Headline.{IsLinkedInto}
use Rattle.sdt_toolkit.specs.RunImages.{HasFiles, IsFiled, is_needed, run_image}
use Rattle.sdt_toolkit.specs.Starting.{FitsAt, entered_at, segments_of, written_in}

-- ---- an image that starts

-- An image as a run has it: what its files are in memory, the view that its startup code makes of them, what that writes, the
-- bound on its steps, and the entry, with bit 0 set for Thumb.
pub record Booting : Type 0 where
  pub run : RunImage
  pub files : ByteMap
  pub view : ByteMap
  pub written : ℕ → Bool
  pub bound : ℕ
  pub entry : ℕ

-- The startup code, in ARM state, leads to the entry. Memory of zeros into which the run loads the image has bytes, and those of
-- the files, each of which lies in a range that is to be memory.
pub record CanBoot (b : Booting) : Type 0 where
  pub boots : Boots b.files b.view b.written b.run.start b.bound b.entry
  pub arm : b.run.thumb ≡ false
  pub small : (x : ℕ) → loaded (λ a. 0) b.run.loads x < 256
  pub holds : (x v : ℕ) → b.files x ≡ Some v → loaded (λ a. 0) b.run.loads x ≡ v
  pub needed : (x v : ℕ) → b.files x ≡ Some v → is_needed b.run.needs x ≡ true

-- banks have memory wherever a view has a byte, and touch no more pages than there can be frames
pub record TakeView (view : ByteMap) (banks : List Bank) : Type 0 where
  pub there : (x v : ℕ) → view x ≡ Some v → bank_has banks x 1 ≡ true
  pub pages : pages_touched banks 1048576 ≤ 65536

-- the image asks for memory wherever the view has a byte, or the banks have it there
abbrev pub HasView : Booting → List Bank → Type 0
HasView b banks = ((x v : ℕ) → b.view x ≡ Some v → is_needed b.run.needs x ≡ true) ⊎ TakeView b.view banks

-- banks and devices are whole words, and what the startup code writes isn't read-only
pub record Allow (banks : List Bank) (seats : List Seat) (written : ℕ → Bool) : Type 0 where
  pub banks_whole : AreWholeBanks banks
  pub seats_whole : AreWholeSeats seats
  pub writable : (x : ℕ) → written x ≡ true → protected_at banks x ≡ false

-- ---- the startup's steps

-- from registers and a bus: no more than the bound, over the lines of the bus's own devices; they lead to the entry with
-- memory as the view, each access lies in a load or an execution range, and none is a device's
pub record AreStartup (b : Booting) (core : ArmState) (s : State) (steps : List Stepped) : Type 0 where
  pub few : length steps ≤ b.bound
  pub boot : BootSteps (length steps) b.files b.view b.entry (board_of s) (over core s) (lines_for (length steps) s.devices) steps
  pub off : EachStep (AreOffDevices (board_of s)) (accesses_of steps)

-- ---- the run

-- a run that ends at or before the entry: it ended since no more steps were to be made, its steps are the first of the startup's,
-- nothing was printed, and no device was touched
pub record IsShort (why : Stop) (most made : ℕ) (core : ArmState) (s : State) (core' : ArmState) (s' : State)
    (before after : Option (List ℕ)) (steps : List Stepped) : Type 0 where
  pub cut : why ≡ stop.Budget
  pub all : made ≡ most
  pub are : AreMade core s (take most steps) core' s'
  pub unprinted : Got before after []
  pub touches : touches_of s'.devices ≡ touches_of s.devices

-- a longer run: its steps are the startup's, and then others; one at least where more than the startup's may be made
pub record IsLong (why : Stop) (most made : ℕ) (core : ArmState) (s : State) (core' : ArmState) (s' : State)
    (steps : List Stepped) : Type 0 where
  pub rest : List Stepped
  pub count : length (steps ++ rest) ≡ steps_made why made
  pub are : AreMade core s (steps ++ rest) core' s'
  pub more : length steps < most → length steps < steps_made why made

-- the startup's steps are the first of a longer run, and a run of no more steps is short
pub record RunStarts (b : Booting) (why : Stop) (most made : ℕ) (core : ArmState) (s : State) (core' : ArmState)
    (s' : State) (before after : Option (List ℕ)) (steps : List Stepped) : Type 0 where
  pub startup : AreStartup b core s steps
  pub short : most ≤ length steps → IsShort why most made core s core' s' before after steps
  pub long : length steps ≤ most → IsLong why most made core s core' s' steps

-- an image was run from reset over banks that were opened for it, and its run starts so
pub record HasStarted (b : Booting) (banks : List Bank) (most : ℕ) (why : Stop)
    (before after : Option (List ℕ)) (rose : Type 0) (seats left : List Seat) : Type 0 where
  pub ran : Ran banks b.run most why before after rose seats left
  pub steps : List Stepped
  pub starts : RunStarts b why most ran.is_run.made ran.is_run.core ran.begin ran.is_run.core' ran.is_run.end before after steps
  pub devices : ran.begin.devices ≡ seats
  pub devices_left : left ≡ ran.is_run.end.devices

-- so it does for each answer of `run` that tells of a run, in banks that the words tell
abbrev pub Started : Booting → RunWords → Outside → List Seat → List Seat → Stop → Type 0
Started b w o seats left why =
    (banks : List Bank) × AreBanks w.memory w.rom banks
    × HasStarted b banks w.steps why o.printed o.prints (Rose o.faults o.faults_now) seats left

abbrev pub AnswerStarts : Booting → RunWords → Outside → List Seat → List Seat → Answer → Type 0
AnswerStarts b w o seats left answer.Done = Started b w o seats left stop.Exit
AnswerStarts b w o seats left (answer.Stopped why) = Started b w o seats left why
AnswerStarts b w o seats left answer.SinkFault = Started b w o seats left stop.Sink
AnswerStarts b w o seats left other = Unit {0}

-- ---- the images of containers

-- the entry, with bit 0 set for Thumb
abbrev pub entry_of : Image → ℕ
entry_of i = i.entry + flag i.thumb

-- the load regions reach the entry with memory as the view, over what is written
abbrev pub BootsTo : Image → ByteMap → (ℕ → Bool) → Type 0
BootsTo i view written = Boots (map_of (segments_of i)) view written i.start i.bound (entry_of i)

-- a scatter image, as a run by its map has it, and as one of its ELF executable does, whose segments are the load regions
abbrev pub map_booting : Image → ByteMap → Booting
map_booting i view = record {
  run = run_image i;
  files = map_of (segments_of i);
  view = view;
  written = written_in i;
  bound = i.bound;
  entry = entry_of i;
}

abbrev pub elf_booting : Image → ByteMap → List ℕ → Elf → Booting
elf_booting i view file e = record {
  run = loaded_elf file e;
  files = map_of (segments_of i);
  view = view;
  written = written_in i;
  bound = i.bound;
  entry = entry_of i;
}

-- an ELF executable, with the tables where these are asked for
abbrev pub executable : Bool → Image → Tables → List ℕ
executable false i t = elf_file i
executable true i t = named_file i t

-- an ARM image file at an address, as a run has it: what is moved is written as a whole, and otherwise the zero part
abbrev pub written_there : Kind → Image → ℕ → ℕ → Bool
written_there (kind.Aif base true) i to = aif_written (aif_file i) to (parts_size i.regions) (zero_size i.regions)
written_there other i to = covers (to + parts_size i.regions) (zero_size i.regions)

abbrev pub aif_booting : Kind → Image → (ℕ → ByteMap) → ℕ → Booting
aif_booting k i views to = record {
  run = loaded_aif to (aif_record i) (aif_file i);
  files = file_at (aif_file i) to;
  view = views to;
  written = written_there k i to;
  bound = i.bound;
  entry = entered_at k i to;
}

-- the words put the file at an address, or at its own
abbrev pub PutAt : List ℕ → Image → Named → ℕ → Type 0
PutAt out i named to = (named ≡ image.Aif out (Some to)) ⊎ ((named ≡ image.Aif out None) × (to ≡ i.start))

-- what the words of a run name in the files of a container, as an image that starts: by the map, under a name of one line
-- without a zero byte; by the ELF executable; or the ARM image file, where it fits; bytes alone have no startup code
abbrev pub Names : Container → Kind → List ℕ → Tables → Image → (ℕ → ByteMap) → Named → Booting → Type 0
Names container.LoadFiles k out t i views named b =
    (lacks 10 out ≡ true) × (has_zero out ≡ false) × (named ≡ image.Map (map_name out)) × (b ≡ map_booting i (views i.start))
Names (container.Elf symbols) k out t i views named b =
    (e : Elf) × ReadsElf (executable symbols i t) e × (named ≡ image.Elf out)
    × (b ≡ elf_booting i (views i.start) (executable symbols i t) e)
Names container.ImageFile k out t i views named b = (to : ℕ) × FitsAt k i to × PutAt out i named to × (b ≡ aif_booting k i views to)
Names container.Binary k out t i views named b = ⊥

-- an ELF executable tells load ranges alone: the banks have memory for the view
abbrev pub HaveRanges : Container → ByteMap → List Bank → Type 0
HaveRanges (container.Elf symbols) view banks = TakeView view banks
HaveRanges other view banks = Unit {0}

-- no bank that holds what the startup code writes is read-only
pub record Suit (c : Container) (b : Booting) (banks : List Bank) : Type 0 where
  pub writable : (x : ℕ) → b.written x ≡ true → protected_at banks x ≡ false
  pub ranges : HaveRanges c b.view banks

-- ---- laws

-- where a scatter image's files stand in a store, its map reads as the image
abbrev pub FilesAreRead : Type 0
FilesAreRead =
    (i : Image) (out : List ℕ) (files : Files) (faults faults_now : ℕ) (read : Result RunImage Refusal) → IsFiled i out
    → HasFiles files (load_files i out) → IsRead (Some files) (Rose faults faults_now) (image.Map (map_name out)) read
    → read ≡ Ok (run_image i)

-- the first steps of a run of an image that starts are the startup's, which lead to the entry
abbrev pub RunsStart : Type 0
RunsStart =
    (b : Booting) (banks : List Bank) (seats left : List Seat) (most : ℕ) (why : Stop)
    (before after : Option (List ℕ)) (faults faults_now : ℕ) → CanBoot b → HasView b banks → Allow banks seats b.written
    → Ran banks b.run most why before after (Rose faults faults_now) seats left
    → HasStarted b banks most why before after (Rose faults faults_now) seats left

-- so does each run that the command `run` makes of such an image, which the words read
abbrev pub CommandsStart : Type 0
CommandsStart =
    (b : Booting) (w : RunWords) (o : Outside) (seats left : List Seat) (a : Answer) → CanBoot b
    → ((read : Result RunImage Refusal) → IsRead o.before (Rose o.reads o.reads_now) w.image read → read ≡ Ok b.run)
    → ((banks : List Bank) → AreBanks w.memory w.rom banks → HasView b banks × Allow banks seats b.written)
    → RunAnswers w o seats left a → AnswerStarts b w o seats left a

-- and so, over the files as `link` or `build` left them, does each run of what they name, in banks that allow it
abbrev pub LinkedRunsStart : Type 0
LinkedRunsStart =
    (sources : Bool) (w : LinkWords) (before : Files) (after : Option Files) (i : Image) (views : ℕ → ByteMap) (b : Booting)
    (r : RunWords) (o : Outside) (seats left : List Seat) (a : Answer) → ComeTogether w.placement w.container
    → (link : IsLinkedInto sources w before after i views) → o.before ≡ after
    → Names w.container link.shape w.output link.tables i views r.image b
    → ((banks : List Bank) → AreBanks r.memory r.rom banks → HaveRanges w.container b.view banks × Allow banks seats b.written)
    → RunAnswers r o seats left a → AnswerStarts b r o seats left a

-- ---- clauses of the top call

-- Over the files as `link` or `build` left them, a run by their map, of the ELF executable or of the ARM image file starts so.
-- Devices are of whole words, and the banks suit the image.
abbrev pub IsStarted : RunWords → Outside → List Seat → List Seat → Answer → Type 0
IsStarted r o seats left a =
    (sources : Bool) (w : LinkWords) (before : Files) (after : Option Files) (i : Image) (views : ℕ → ByteMap) (b : Booting)
    → ComeTogether w.placement w.container → (link : IsLinkedInto sources w before after i views) → o.before ≡ after
    → Names w.container link.shape w.output link.tables i views r.image b → AreWholeSeats seats
    → ((banks : List Bank) → AreBanks r.memory r.rom banks → Suit w.container b banks) → AnswerStarts b r o seats left a

abbrev pub StartsAsLinked : Result Command ℕ → Outside → List Seat → List Seat → Answer → Type 0
StartsAsLinked asked o seats left a = (r : RunWords) → asked ≡ Ok (command.Run r) → IsStarted r o seats left a

-- An image was run from reset over banks that were opened for it, by these steps: each is one of the model over the bus's board,
-- with the lines of the devices' one tick and their own answers. Where none accesses a device, each device is left as so many
-- ticks make it, with its touches.
pub record RanBySteps (banks : List Bank) (i : RunImage) (most : ℕ) (why : Stop) (before after : Option (List ℕ)) (rose : Type 0)
    (seats left : List Seat) : Type 0 where
  pub ran : Ran banks i most why before after rose seats left
  pub steps : List Stepped
  pub count : length steps ≡ steps_made why ran.is_run.made
  pub are : AreMade ran.is_run.core ran.begin steps ran.is_run.core' ran.is_run.end
  pub idle : EachStep (AreOffDevices (board_of ran.begin)) (accesses_of steps)
      → (left ≡ ticked_for (length steps) seats) × (touches_of left ≡ touches_of seats)

-- so the image of the words was run, where the answer tells of a run
pub record IsRunBySteps (w : RunWords) (o : Outside) (seats left : List Seat) (why : Stop) : Type 0 where
  pub image : RunImage
  pub read : IsRead o.before (Rose o.reads o.reads_now) w.image (Ok image)
  pub banks : List Bank
  pub are_banks : AreBanks w.memory w.rom banks
  pub ran : RanBySteps banks image w.steps why o.printed o.prints (Rose o.faults o.faults_now) seats left

abbrev pub AnswerSteps : RunWords → Outside → List Seat → List Seat → Answer → Type 0
AnswerSteps w o seats left answer.Done = IsRunBySteps w o seats left stop.Exit
AnswerSteps w o seats left (answer.Stopped why) = IsRunBySteps w o seats left why
AnswerSteps w o seats left answer.SinkFault = IsRunBySteps w o seats left stop.Sink
AnswerSteps w o seats left other = Unit {0}

abbrev pub RunsBySteps : Result Command ℕ → Outside → List Seat → List Seat → Answer → Type 0
RunsBySteps asked o seats left a = (r : RunWords) → asked ≡ Ok (command.Run r) → AreWholeSeats seats → AnswerSteps r o seats left a

-- ---- one answer

-- each file holds bytes
abbrev pub HoldBytes : Files → Type 0
HoldBytes files = (name bytes : List ℕ) → content files name ≡ Some bytes → AreBytes bytes

-- an answer that neither a fault nor want of memory made
abbrev pub IsDecided : Answer → Type 0
IsDecided answer.Done = Unit {0}
IsDecided (answer.Refused r) = Unit {0}
IsDecided (answer.Stopped why) = Unit {0}
IsDecided other = ⊥

-- Words, files of bytes, the text before and devices of whole words decide a run: two such answers to it are one, and leave
-- one text, the same devices and the same files, whatever store and sink counted.
abbrev pub OneRun : Type 0
OneRun =
    (words : List (List ℕ)) (w : RunWords) (files : Files) (printed : List ℕ) (o p : Outside) (seats left left' : List Seat) (a b : Answer)
    → command_of words ≡ Ok (command.Run w) → HoldBytes files → AreWholeSeats seats
    → o.before ≡ Some files → p.before ≡ Some files → o.printed ≡ Some printed → p.printed ≡ Some printed
    → RunAnswers w o seats left a → RunAnswers w p seats left' b → IsDecided a → IsDecided b
    → (a ≡ b) × (left ≡ left') × (o.prints ≡ p.prints) × (o.after ≡ p.after)
