-- What the command `asm` makes of a source's file: the file of its object, which is valid and whose statements stand
-- wherever it is placed, or its first refusal. This project's.
use Rattle.std.specs.Prelude.{◌≡◌, ◌⊎◌, ℕ, List, [], ◌∷◌, Option, Some, None, Result, Ok, Err}
use Rattle.sdt_fault.specs.declared.answer.Answer.{Answer}
use Rattle.sdt_fault.specs.declared.answer.Answer.TheVariants as answer
use Rattle.sdt_fault.specs.declared.answer.Fault.{Fault}
use Rattle.sdt_fault.specs.declared.refusal.Refusal.{Refusal}
use Rattle.sdt_fault.specs.declared.refusal.Refusal.TheVariants.{Missing}
use Rattle.sdt_outside.specs.Counts.{Rose}
use Rattle.sdt_outside.specs.Files.{Files, content, IsFound}
use Rattle.chunk_file.specs.Reading.{◌>>=◌}
use Rattle.aof_object.specs.declared.records.Object.{Object}
use Rattle.aof_object.specs.Grammar.{Fits}
use Rattle.aof_object.specs.Spelling.{written}
use Rattle.aof_object.specs.Validity.{IsValid}
use Rattle.armasm_core.specs.Assembling.{AssembledFrom, MayGet}
use Rattle.armasm_core.specs.Standing.{StandsFrom}
use Rattle.tool_answers.specs.Inputs.{IsReached}
use Rattle.tool_answers.specs.Outcomes.{Outcome, Outside, IsLeft, Says, IsLost, writes_one, unprinted}
use Rattle.sdt_toolkit.specs.Reads.{Reads, HasCause, HasFailed, TellsOf, reads_of}

-- ---- a text

-- an object of words, valid, of which the source's statements stand wherever it is placed
pub record IsObjectOf (told : Option Files) (name text : List ℕ) (o : Object) : Type 0 where
  pub stands : StandsFrom told name text o
  pub valid : IsValid o
  pub fits : Fits o

-- the bytes of the object of a source, or its first refusal; a file that would be too long is refused last
pub record Spells (s : Reads) (name text : List ℕ) (bytes : Result (List ℕ) Refusal) : Type 0 where
  pub made : Result Object Refusal
  pub assembled : AssembledFrom s.told name text made
  pub caused : HasCause s made
  pub sound : (o : Object) → made ≡ Ok o → IsObjectOf s.told name text o
  pub spelled : bytes ≡ (made >>= written)

-- what is to be written under a name
pub record TextAsks (s : Reads) (name output text : List ℕ) (asked : Result Outcome Refusal) : Type 0 where
  pub bytes : Result (List ℕ) Refusal
  pub spells : Spells s name text bytes
  pub outcome : asked ≡ (bytes >>= λ b. Ok (writes_one output b))

-- what a call gives of a source's text
abbrev pub SpellsAs : Reads → List ℕ → List ℕ → Result (List ℕ) Fault → Type 0
SpellsAs s name text r = TellsOf s r (Spells s name text) (MayGet s.told name text)

-- ---- a file

abbrev pub FoundAsks : Reads → List ℕ → List ℕ → Option (List ℕ) → Result Outcome Refusal → Type 0
FoundAsks s name output None asked = asked ≡ Err (Missing name)
FoundAsks s name output (Some text) asked = TextAsks s name output text asked

-- what the store's files ask for; where it doesn't tell them, what some text asks for, or the file is missing, for which a
-- read failed
abbrev pub FilesAsk : Option Files → Reads → List ℕ → List ℕ → Result Outcome Refusal → Type 0
FilesAsk None s name output asked = ((text : List ℕ) × TextAsks s name output text asked) ⊎ IsLost (name ∷ []) (HasFailed s) asked
FilesAsk (Some files) s name output asked = FoundAsks s name output (content files name) asked

abbrev pub SourceAsks : Reads → List ℕ → List ℕ → Result Outcome Refusal → Type 0
SourceAsks s name output asked = FilesAsk s.told s name output asked

-- the file whose read may fail: the source's, or, where that was read, one that it gets
abbrev pub MayFail : Option Files → List ℕ → List ℕ → Type 0
MayFail told name q = IsReached told (name ∷ []) q ⊎ ((text : List ℕ) × IsFound told name text × MayGet told name text q)

-- the answer to `asm`: where a read failed or memory was refused, nothing is told of the source and nothing is written
abbrev pub AssemblyAnswers : List ℕ → List ℕ → Outside → Answer → Type 0
AssemblyAnswers name output o (answer.ReadFault q) = Rose o.reads o.reads_now × MayFail o.before name q × IsLeft o
AssemblyAnswers name output o answer.NoMemory = IsLeft o
AssemblyAnswers name output o a =
    (asked : Result Outcome Refusal) × SourceAsks (reads_of o) name output asked × Says asked (name ∷ []) o a

-- the same over the files and counts of a store and beside any sink, of which it prints nothing
abbrev pub AssemblyAnswersOver : List ℕ → List ℕ → Option Files → Option Files → ℕ → ℕ → ℕ → ℕ → Answer → Type 0
AssemblyAnswersOver name output before after reads reads_now writes writes_now a =
    (printed : Option (List ℕ)) (faults : ℕ)
    → AssemblyAnswers name output (unprinted printed faults before after reads reads_now writes writes_now) a

-- files ask for one thing
abbrev pub OneAsked : Type 0
OneAsked =
    (s : Reads) (name output : List ℕ) (files : Files) (a b : Result Outcome Refusal) → s.told ≡ Some files
    → SourceAsks s name output a → SourceAsks s name output b → a ≡ b
