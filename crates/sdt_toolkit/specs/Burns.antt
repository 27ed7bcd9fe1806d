-- What `burn` leaves over the load files and the map as `link` or `build` left them of a scatter image: a text of records that tells
-- the image's load regions and its start, so that the image starts from it, and each run of it does. This project's.
use Rattle.std.specs.Prelude.{◌≡◌, ℕ, ◌+◌, Bool, true, false, List, Option, Some, Result, Ok}
use Rattle.sdt_word.specs.Numbers.{flag}
use Rattle.sdt_fault.specs.declared.answer.Answer.{Answer}
use Rattle.sdt_fault.specs.declared.answer.Answer.TheVariants as answer
use Rattle.sdt_outside.specs.Files.{Files, IsWritten, content}
use Rattle.arm7_bus.specs.declared.memory.Bank.{Bank}
use Rattle.arm7_bus.specs.Seats.{Seat}
use Rattle.arm7_bus.specs.States.{protected_at}
use Rattle.arm7_bus.specs.WholeWords.{AreWholeSeats}
use Rattle.hex_image.specs.declared.records.Burn.{Burn}
use Rattle.hex_image.specs.Images.{told}
use Rattle.hex_image.specs.Reads.{ReadsIhex, ReadsSrec}
use Rattle.boot_code.specs.Boots.{Boots, ByteMap}
use Rattle.boot_code.specs.Maps.{map_of}
use Rattle.link_model.specs.declared.images.Image.{Image}
use Rattle.bin_image.specs.Fields.{lacks}
use Rattle.bin_image.specs.Files.{map_name}
use Rattle.tool_answers.specs.Outcomes.{Outside}
use Rattle.tool_words.specs.declared.command.BurnForm.{BurnForm}
use Rattle.tool_words.specs.declared.command.BurnForm.TheVariants as form
use Rattle.tool_words.specs.declared.command.Command.{Command}
use Rattle.tool_words.specs.declared.command.Command.TheVariants as command
use Rattle.tool_words.specs.declared.command.Container.TheVariants as container
use Rattle.tool_words.specs.declared.command.LinkPlacement.TheVariants as placement
use Rattle.tool_words.specs.declared.command.LinkWords.{LinkWords}
use Rattle.tool_words.specs.declared.command.RunImage.TheVariants as image
use Rattle.tool_words.specs.declared.command.RunWords.{RunWords}
use Rattle.tool_run.specs.Burned.{burned_image, loaded_burn}
use Rattle.tool_run.specs.Burns.{BurnAnswers}
use Rattle.tool_run.specs.Images.{has_zero}
use Rattle.tool_run.specs.Openings.{AreBanks}
use Rattle.sdt_toolkit.specs.Headline.{IsLinkedInto}
use Rattle.sdt_toolkit.specs.Runs.{AnswerStarts, Booting, TakeView, entry_of}
use Rattle.sdt_toolkit.specs.Starting.{segments_of, written_in}

-- a text of the form tells the image
abbrev pub ReadsText : BurnForm → List ℕ → Burn → Type 0
ReadsText form.IntelHex text burn = ReadsIhex text burn
ReadsText form.SRecords text burn = ReadsSrec text burn

-- The text tells the image's load regions and its start, and is read so by `run -burned` under every name: so every memory that
-- holds what it tells reaches the entry with memory as the view.
pub record IsBurnText (records : BurnForm) (i : Image) (view : ByteMap) (text : List ℕ) : Type 0 where
  pub burn : Burn
  pub reads : ReadsText records text burn
  pub start : burn.start ≡ i.start
  pub tells : told burn.pieces ≡ map_of (segments_of i)
  pub boots : Boots (told burn.pieces) view (written_in i) burn.start i.bound (i.entry + flag i.thumb)
  pub runs : (name : List ℕ) → burned_image name text ≡ Ok (loaded_burn burn)

-- such a text was written, and nothing else
abbrev pub IsBurnt : BurnForm → Image → ByteMap → List ℕ → Outside → Type 0
IsBurnt records i view output o = (text : List ℕ) × IsWritten o.before o.after output text × IsBurnText records i view text

-- so it is over the files of a scatter image, under a name of one line without a zero byte
abbrev pub BurnsLinked : BurnForm → List ℕ → List ℕ → Outside → Type 0
BurnsLinked records file output o =
    (sources : Bool) (w : LinkWords) (description : List ℕ) (before : Files) (after : Option Files) (i : Image) (views : ℕ → ByteMap)
    → w.placement ≡ placement.Scatter description → w.container ≡ container.LoadFiles
    → lacks 10 w.output ≡ true → has_zero w.output ≡ false
    → IsLinkedInto sources w before after i views → o.before ≡ after → file ≡ map_name w.output
    → IsBurnt records i (views i.start) output o

-- ---- a law

abbrev pub LinkedBurns : Type 0
LinkedBurns =
    (records : BurnForm) (file output : List ℕ) (o : Outside) → BurnAnswers records file output o answer.Done
    → BurnsLinked records file output o

-- ---- the clause of the top call

abbrev pub BurnsAsLinked : Result Command ℕ → Outside → Answer → Type 0
BurnsAsLinked asked o a =
    (records : BurnForm) (file output : List ℕ) → asked ≡ Ok (command.Burn records file output) → a ≡ answer.Done
    → BurnsLinked records file output o

-- ---- runs of the text

-- the image, as a run of the text has it
abbrev pub burn_booting : Image → ByteMap → Burn → Booting
burn_booting i view b = record {
  run = loaded_burn b;
  files = told b.pieces;
  view = view;
  written = written_in i;
  bound = i.bound;
  entry = entry_of i;
}

-- no bank that holds what the startup code writes is read-only; the text tells load ranges alone, so the banks have memory for the
-- view
pub record SuitText (i : Image) (view : ByteMap) (banks : List Bank) : Type 0 where
  pub writable : (x : ℕ) → written_in i x ≡ true → protected_at banks x ≡ false
  pub ranges : TakeView view banks

-- Where such a text of a scatter image that `link` or `build` made stands in a store, a run of it begins with the startup code's
-- steps. Devices are of whole words, and the banks suit the image.
abbrev pub IsStartedByText : RunWords → Outside → List Seat → List Seat → Answer → Type 0
IsStartedByText r o seats left a =
    (sources : Bool) (w : LinkWords) (description : List ℕ) (before : Files) (after : Option Files) (i : Image) (views : ℕ → ByteMap)
    (records : BurnForm) (name text : List ℕ) (files : Files) → w.placement ≡ placement.Scatter description
    → IsLinkedInto sources w before after i views → (h : IsBurnText records i (views i.start) text)
    → o.before ≡ Some files → content files name ≡ Some text → r.image ≡ image.Burned name → AreWholeSeats seats
    → ((banks : List Bank) → AreBanks r.memory r.rom banks → SuitText i (views i.start) banks)
    → AnswerStarts (burn_booting i (views i.start) h.burn) r o seats left a

abbrev pub StartsAsBurned : Result Command ℕ → Outside → List Seat → List Seat → Answer → Type 0
StartsAsBurned asked o seats left a = (r : RunWords) → asked ≡ Ok (command.Run r) → IsStartedByText r o seats left a
