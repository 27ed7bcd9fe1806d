-- What `build` makes of sources is what `link` makes of the object files that `asm` makes of them. This project's.
use Rattle.std.specs.Prelude.{◌≡◌, ◌↔◌, ℕ, Bool, true, false, if◌then◌else◌, List, map, Some, Result, Ok}
use Rattle.std.specs.List.{AllByRecursion}
use Rattle.sdt_fault.specs.declared.answer.Answer.{Answer}
use Rattle.sdt_fault.specs.declared.answer.Answer.TheVariants as answer
use Rattle.sdt_outside.specs.Files.{Files, content}
use Rattle.chunk_file.specs.Reading.{◌>>=◌}
use Rattle.aof_object.specs.declared.records.Object.{Object}
use Rattle.aof_object.specs.Spelling.{written}
use Rattle.armasm_core.specs.Assembling.{AssembledFrom}
use Rattle.tool_words.specs.declared.command.Command.{Command}
use Rattle.tool_words.specs.declared.command.Command.TheVariants as command
use Rattle.tool_words.specs.declared.command.LinkPlacement.{LinkPlacement}
use Rattle.tool_words.specs.declared.command.LinkPlacement.TheVariants as placement
use Rattle.tool_words.specs.declared.command.LinkWords.{LinkWords}
use Rattle.tool_answers.specs.Outcomes.{AreWritten, Outcome, Outside, writes_one}
use Rattle.sdt_toolkit.specs.Exact.{IsAccepted, IsCalm}
use Rattle.sdt_toolkit.specs.Inputs.{is_source_name, object_name}
use Rattle.sdt_toolkit.specs.Links.{WordsAsk}
use Rattle.sdt_toolkit.specs.Reads.{Reads, reads_of}
use Rattle.sdt_toolkit.specs.Sources.{IsObjectOf, SourceAsks, Spells}

-- ---- words

-- the name under which a link finds what a build finds under a name
abbrev pub link_name : List ℕ → List ℕ
link_name name = if is_source_name name then object_name name else name

abbrev pub link_words : LinkWords → LinkWords
link_words w = record {
  placement = w.placement;
  container = w.container;
  output = w.output;
  names = map link_name w.names;
  ram = w.ram;
}

-- ---- files

-- the bytes are the file of the object that the text of a source is assembled to, as `assemble` gives it
pub record IsObjectFile (files : Files) (name text bytes : List ℕ) : Type 0 where
  pub object : Object
  pub assembled : AssembledFrom (Some files) name text (Ok object)
  pub sound : IsObjectOf (Some files) name text object
  pub spelled : written object ≡ Ok bytes

pub record HasObjectFile (files others : Files) (name : List ℕ) : Type 0 where
  pub text : List ℕ
  pub bytes : List ℕ
  pub source : content files name ≡ Some text
  pub file : content others (object_name name) ≡ Some bytes
  pub object : IsObjectFile files name text bytes

abbrev pub IsSame : Files → Files → List ℕ → Type 0
IsSame files others name = content others name ≡ content files name

-- among other files a source's object has its file, and a file that is no source is the same
abbrev pub HasItsFile : Files → Files → Bool → List ℕ → Type 0
HasItsFile files others true name = HasObjectFile files others name
HasItsFile files others false name = IsSame files others name

abbrev pub HasItsDescription : Files → Files → LinkPlacement → Type 0
HasItsDescription files others (placement.Scatter file) = IsSame files others file
HasItsDescription files others other = Unit {0}

-- the files that a build reads, with the objects of its sources
pub record HasObjects (files others : Files) (w : LinkWords) : Type 0 where
  pub description : HasItsDescription files others w.placement
  pub inputs : AllByRecursion (λ name. HasItsFile files others (is_source_name name) name) w.names

-- ---- the laws

-- what `asm` writes of a source is such a file
abbrev pub SpelledAreObjectFiles : Type 0
SpelledAreObjectFiles =
    (s : Reads) (files : Files) (name text bytes : List ℕ) → s.told ≡ Some files → Spells s name text (Ok bytes)
    → IsObjectFile files name text bytes

-- a build asks for an outcome just where the link of the objects does
abbrev pub BuildsAreLinks : Type 0
BuildsAreLinks =
    (s t : Reads) (files others : Files) (w : LinkWords) (o : Outcome)
    → s.told ≡ Some files → t.told ≡ Some others → HasObjects files others w
    → (WordsAsk s true w (Ok o)) ↔ (WordsAsk t false (link_words w) (Ok o))

-- ---- each source alone

-- `asm` of a source asks for the file of the object that its text is assembled to: for the object's spelling, or, where that has
-- 2^32 bytes or more, for its refusal (`written`)
pub record AsksAlone (s : Reads) (files : Files) (name : List ℕ) : Type 0 where
  pub text : List ℕ
  pub object : Object
  pub source : content files name ≡ Some text
  pub assembled : AssembledFrom (Some files) name text (Ok object)
  pub sound : IsObjectOf (Some files) name text object
  pub asks : (output : List ℕ) → SourceAsks s name output (written object >>= λ bytes. Ok (writes_one output bytes))

abbrev pub EachAsksAlone : Reads → Files → LinkWords → Type 0
EachAsksAlone s files w = AllByRecursion (λ name. is_source_name name ≡ true → AsksAlone s files name) w.names

-- ---- the clause of the top call

-- Where a build is done, `asm` of each of its sources asks for its object's file. Beside the files that a build reads are
-- others, with what `asm` writes of each source. Where the build is done, the link of the objects asks for the same files; and
-- where that link asks for files, the build is accepted, if nothing fails.
pub record IsLinkOfObjects (w : LinkWords) (o : Outside) (files : Files) (a : Answer) : Type 0 where
  pub each : a ≡ answer.Done → EachAsksAlone (reads_of o) files w
  pub done : a ≡ answer.Done → (t : Reads) (others : Files) → t.told ≡ Some others → HasObjects files others w
      → (out : Outcome) × WordsAsk t false (link_words w) (Ok out) × AreWritten o.before o.after out.files
  pub accepted : IsCalm o → (t : Reads) (others : Files) → t.told ≡ Some others → HasObjects files others w
      → (out : Outcome) → WordsAsk t false (link_words w) (Ok out) → IsAccepted a

abbrev pub BuildsAsLinked : Result Command ℕ → Outside → Answer → Type 0
BuildsAsLinked asked o a =
    (w : LinkWords) (files : Files) → asked ≡ Ok (command.Build w) → o.before ≡ Some files → IsLinkOfObjects w o files a
