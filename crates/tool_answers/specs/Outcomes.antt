-- What a command is to do, and what each answer says and leaves. This project's.
use Rattle.std.specs.Prelude.{◌≡◌, ℕ, List, [], ◌∷◌, ◌++◌, length, Option, Some, None, Result, Ok, Err, ◌⊎◌}
use Rattle.std.specs.FinMap.{insert}
use Rattle.sdt_fault.specs.declared.answer.Answer.{Answer}
use Rattle.sdt_fault.specs.declared.answer.Answer.TheVariants as answer
use Rattle.sdt_fault.specs.declared.refusal.Refusal.{Refusal}
use Rattle.sdt_fault.specs.declared.refusal.Refusal.TheVariants.{Missing}
use Rattle.sdt_outside.specs.Files.{Files, IsWritten, SameBut}
use Rattle.tool_answers.specs.Inputs.{IsReached}
use Rattle.sdt_outside.specs.Counts.{Rose}
use Rattle.sdt_outside.specs.Sinks.{Got, GotPart}

-- the files that are to be written, in order, and the text that is to be printed behind them
pub record Outcome : Type 0 where
  pub files : List (List ℕ × List ℕ)
  pub prints : List ℕ

abbrev pub writes_one : List ℕ → List ℕ → Outcome
writes_one name bytes = record { files = (name, bytes) ∷ []; prints = [] }

abbrev pub prints_only : List ℕ → Outcome
prints_only text = record { files = []; prints = text }

-- the files once some were written
abbrev pub written : Files → List (List ℕ × List ℕ) → Files
written files [] = files
written files (f ∷ fs) = written (insert files f.0 f.1) fs

abbrev pub AreWritten : Option Files → Option Files → List (List ℕ × List ℕ) → Type 0
AreWritten None now fs = now ≡ None
AreWritten (Some before) now fs = now ≡ Some (written before fs)

-- some of the files were written, and then this one was not and may hold anything
pub record FailsAt (before now : Option Files) (fs : List (List ℕ × List ℕ)) (name : List ℕ) : Type 0 where
  pub done : List (List ℕ × List ℕ)
  pub bytes : List ℕ
  pub rest : List (List ℕ × List ℕ)
  pub outputs : fs ≡ done ++ (name, bytes) ∷ rest
  pub between : Option Files
  pub written_before : AreWritten before between done
  pub others : SameBut between now name

-- a beginning of the files was written
pub record IsCutShort (before now : Option Files) (fs : List (List ℕ × List ℕ)) : Type 0 where
  pub done : List (List ℕ × List ℕ)
  pub rest : List (List ℕ × List ℕ)
  pub outputs : fs ≡ done ++ rest
  pub written_before : AreWritten before now done

-- what store and sink were and are: the files, what was printed, and the counts of faults
pub record Outside : Type 0 where
  pub before : Option Files
  pub after : Option Files
  pub printed : Option (List ℕ)
  pub prints : Option (List ℕ)
  pub reads : ℕ
  pub reads_now : ℕ
  pub writes : ℕ
  pub writes_now : ℕ
  pub faults : ℕ
  pub faults_now : ℕ

-- nothing was written and nothing printed
pub record IsLeft (o : Outside) : Type 0 where
  pub files : o.after ≡ o.before
  pub sink : o.prints ≡ o.printed

-- what an answer says of what the input asks for, and what it leaves
abbrev pub Says : Result Outcome Refusal → List (List ℕ) → Outside → Answer → Type 0
Says asked inputs o answer.Done =
    (out : Outcome) × (asked ≡ Ok out) × AreWritten o.before o.after out.files × Got o.printed o.prints out.prints
Says asked inputs o (answer.Refused r) = (asked ≡ Err r) × IsLeft o
Says asked inputs o (answer.ReadFault name) = Rose o.reads o.reads_now × IsReached o.before inputs name × IsLeft o
Says asked inputs o (answer.WriteFault name) =
    Rose o.writes o.writes_now × ((out : Outcome) × (asked ≡ Ok out) × FailsAt o.before o.after out.files name)
    × (o.prints ≡ o.printed)
Says asked inputs o answer.SinkFault =
    Rose o.faults o.faults_now
    × ((out : Outcome) × (asked ≡ Ok out) × AreWritten o.before o.after out.files × GotPart o.printed o.prints out.prints)
Says asked inputs o (answer.Stopped stop) = ⊥
Says asked inputs o answer.NoMemory =
    ((out : Outcome) × (asked ≡ Ok out) × IsCutShort o.before o.after out.files × (o.prints ≡ o.printed)) ⊎ IsLeft o

-- what some contents of so many files ask for, and of one file
abbrev pub OfAll : (List (List ℕ) → Result Outcome Refusal) → List (List ℕ) → Result Outcome Refusal → Type 0
OfAll makes inputs asked = (contents : List (List ℕ)) × (length contents ≡ length inputs) × (asked ≡ makes contents)

abbrev pub OfOne : (List ℕ → Result Outcome Refusal) → Result Outcome Refusal → Type 0
OfOne makes asked = (bytes : List ℕ) × (asked ≡ makes bytes)

-- a file is told as missing, and a read failed
abbrev pub IsLost : List (List ℕ) → Type 0 → Result Outcome Refusal → Type 0
IsLost inputs rose asked = (name : List ℕ) × (asked ≡ Err (Missing name)) × rose × IsReached None inputs name

-- what the input asks for: what the files tell; and where they aren't told, what some contents of them ask for, or else
-- one is missing, for which a read failed
abbrev pub IsAsked : (Files → Result Outcome Refusal) → (Result Outcome Refusal → Type 0) → Option Files → List (List ℕ) → Type 0
    → Result Outcome Refusal → Type 0
IsAsked judge some_ask None inputs rose asked = some_ask asked ⊎ IsLost inputs rose asked
IsAsked judge some_ask (Some files) inputs rose asked = asked ≡ judge files

-- the answer to a command whose input asks for what these files tell, or such contents ask for
abbrev pub Answers : (Files → Result Outcome Refusal) → (Result Outcome Refusal → Type 0) → List (List ℕ) → Outside → Answer → Type 0
Answers judge some_ask inputs o a =
    (asked : Result Outcome Refusal) × IsAsked judge some_ask o.before inputs (Rose o.reads o.reads_now) asked × Says asked inputs o a

-- ---- the two ends of a command

-- one file was written, or why not
abbrev pub Writes : List ℕ → List ℕ → Option Files → Option Files → Type 0 → Answer → Type 0
Writes name bytes before after rose answer.Done = IsWritten before after name bytes
Writes name bytes before after rose (answer.WriteFault q) = (q ≡ name) × rose × SameBut before after name
Writes name bytes before after rose answer.NoMemory = after ≡ before
Writes name bytes before after rose other = ⊥

-- a text was printed, or a beginning of it
abbrev pub Prints : List ℕ → Option (List ℕ) → Option (List ℕ) → Type 0 → Answer → Type 0
Prints text before after rose answer.Done = Got before after text
Prints text before after rose answer.SinkFault = rose × GotPart before after text
Prints text before after rose other = ⊥

-- the same where the sink is left alone
abbrev pub unprinted : Option (List ℕ) → ℕ → Option Files → Option Files → ℕ → ℕ → ℕ → ℕ → Outside
unprinted printed faults before after reads reads_now writes writes_now = record {
  before = before;
  after = after;
  printed = printed;
  prints = printed;
  reads = reads;
  reads_now = reads_now;
  writes = writes;
  writes_now = writes_now;
  faults = faults;
  faults_now = faults;
}

-- the answer to a command that prints nothing, over the files and counts of a store and beside any sink
abbrev pub AnswersOver : (Files → Result Outcome Refusal) → (Result Outcome Refusal → Type 0) → List (List ℕ) → Option Files → Option Files
    → ℕ → ℕ → ℕ → ℕ → Answer → Type 0
AnswersOver judge some_ask inputs before after reads reads_now writes writes_now a =
    (printed : Option (List ℕ)) (faults : ℕ)
    → Answers judge some_ask inputs (unprinted printed faults before after reads reads_now writes writes_now) a
