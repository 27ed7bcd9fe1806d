-- What the command `burn` writes of a map and its load files, which it reads as `run` does: a text of records of what they load
-- and of where it is started; and what its answers say. This project's.
use Rattle.std.specs.Prelude.{ℕ, ◌+◌, ◌^◌, ◌≤◌, nat_le, if◌then◌else◌, List, [], length, map, Option, Result, Ok, Err}
use Rattle.std.specs.List.{AllByRecursion}
use Rattle.sdt_fault.specs.declared.answer.Answer.{Answer}
use Rattle.sdt_fault.specs.declared.answer.Answer.TheVariants as answer
use Rattle.sdt_fault.specs.declared.kinds.Quantity.TheVariants.{FileBytes}
use Rattle.sdt_fault.specs.declared.refusal.Refusal.{Refusal}
use Rattle.sdt_fault.specs.declared.refusal.Refusal.TheVariants.{TooLarge}
use Rattle.sdt_outside.specs.Counts.{Rose}
use Rattle.sdt_outside.specs.Files.{Files}
use Rattle.chunk_file.specs.Reading.{◌>>=◌}
use Rattle.hex_image.specs.declared.records.Burn.{Burn}
use Rattle.hex_image.specs.declared.records.Piece.{Piece}
use Rattle.hex_image.specs.Images.{piece}
use Rattle.hex_image.specs.Writing.{ihex_of, srec_of}
use Rattle.run_opening.specs.declared.image.Image.{Image}
use Rattle.run_opening.specs.declared.image.Load.{Load}
use Rattle.tool_answers.specs.Outcomes.{Outcome, Outside, IsLeft, Says, unprinted, writes_one}
use Rattle.tool_words.specs.declared.command.BurnForm.{BurnForm}
use Rattle.tool_words.specs.declared.command.BurnForm.TheVariants as form
use Rattle.tool_words.specs.declared.command.RunImage.TheVariants as image
use Rattle.tool_run.specs.Images.{IsInput, IsRead}

-- ---- the text

-- a piece for each load file, and the start
abbrev pub piece_of : Load → Piece
piece_of l = piece l.base l.bytes

abbrev pub burn_in : Image → Burn
burn_in i = record { pieces = map piece_of i.loads; start = i.start }

abbrev pub text_of : BurnForm → Burn → List ℕ
text_of form.IntelHex b = ihex_of b
text_of form.SRecords b = srec_of b

abbrev pub too_large : Refusal
too_large = TooLarge FileBytes 0xFFFFFFFF

-- a text, unless it has 2^32 bytes or more
abbrev pub unless_long : List ℕ → Result (List ℕ) Refusal
unless_long text = if nat_le (2 ^ 32) (length text) then Err too_large else Ok text

abbrev pub burnt : BurnForm → Image → Result (List ℕ) Refusal
burnt records i = unless_long (text_of records (burn_in i))

-- the loads end at 2^32 or below
abbrev pub AreInSpace : List Load → Type 0
AreInSpace loads = AllByRecursion (λ l. l.base + length l.bytes ≤ 2 ^ 32) loads

-- ---- answers

abbrev pub writing : List ℕ → List ℕ → Result Outcome Refusal
writing output text = Ok (writes_one output text)

-- what is asked for, by what was read: the one text, or the refusal
abbrev pub asked_by : BurnForm → List ℕ → Result Image Refusal → Result Outcome Refusal
asked_by records output read = read >>= λ i. burnt records i >>= writing output

-- the read of the map failed, or of one of its load files; else what is asked for says it
abbrev pub BurnSays : List ℕ → Result Outcome Refusal → Outside → Answer → Type 0
BurnSays file asked o (answer.ReadFault name) = Rose o.reads o.reads_now × IsInput o.before (image.Map file) name × IsLeft o
BurnSays file asked o a = Says asked [] o a

pub record BurnAnswers (records : BurnForm) (file output : List ℕ) (o : Outside) (a : Answer) : Type 0 where
  pub read : Result Image Refusal
  pub read_so : IsRead o.before (Rose o.reads o.reads_now) (image.Map file) read
  pub says : BurnSays file (asked_by records output read) o a

-- the same over the files and counts of a store and beside any sink, of which it prints nothing
abbrev pub BurnAnswersOver : BurnForm → List ℕ → List ℕ → Option Files → Option Files → ℕ → ℕ → ℕ → ℕ → Answer → Type 0
BurnAnswersOver records file output before after reads reads_now writes writes_now a =
    (printed : Option (List ℕ)) (faults : ℕ)
    → BurnAnswers records file output (unprinted printed faults before after reads reads_now writes writes_now) a
