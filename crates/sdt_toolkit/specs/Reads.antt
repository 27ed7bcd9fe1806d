-- What a store tells of its files while a command reads, and its counts of read faults before and behind that. This project's.
use Rattle.std.specs.Prelude.{◌≡◌, ℕ, ◌≤◌, List, Option, Result, Ok, Err}
use Rattle.sdt_fault.specs.declared.answer.Fault.{Fault}
use Rattle.sdt_fault.specs.declared.answer.Fault.TheVariants as fault
use Rattle.sdt_fault.specs.declared.refusal.Refusal.{Refusal}
use Rattle.sdt_outside.specs.Counts.{Rose}
use Rattle.sdt_outside.specs.Files.{Files}
use Rattle.armasm_core.specs.Assembling.{IsCaused}
use Rattle.tool_answers.specs.Outcomes.{Outside}

pub record Reads : Type 0 where
  pub told : Option Files
  pub before : ℕ
  pub now : ℕ

-- what a command found and left: files, what was printed, and the counts of faults
abbrev pub outside_of : Option Files → Option Files → Option (List ℕ) → Option (List ℕ) → ℕ → ℕ → ℕ → ℕ → ℕ → ℕ → Outside
outside_of before after printed prints reads reads_now writes writes_now faults faults_now = record {
  before = before;
  after = after;
  printed = printed;
  prints = prints;
  reads = reads;
  reads_now = reads_now;
  writes = writes;
  writes_now = writes_now;
  faults = faults;
  faults_now = faults_now;
}

abbrev pub reads_of : Outside → Reads
reads_of o = record { told = o.before; before = o.reads; now = o.reads_now }

-- a read failed
abbrev pub HasFailed : Reads → Type 0
HasFailed s = Rose s.before s.now

-- a call that found these files, with these counts before and behind it, is among the reads
pub record IsAmong (told : Option Files) (before now : ℕ) (s : Reads) : Type 0 where
  pub files : s.told ≡ told
  pub first : s.before ≤ before
  pub last : now ≤ s.now

-- a refusal has its cause: over a store that tells nothing, a missing file is one whose read failed
abbrev pub HasCause : {A : Type 0} → Reads → Result A Refusal → Type 0
HasCause s (Ok x) = Unit {0}
HasCause s (Err r) = IsCaused s.told (HasFailed s) (fault.Refused r)

-- what a call gives of which this is told, where the read of a file that it gets may fail; want of memory is free
abbrev pub TellsOf : {A : Type 0} → Reads → Result A Fault → (Result A Refusal → Type 0) → (List ℕ → Type 0) → Type 0
TellsOf s (Ok x) is gets = is (Ok x)
TellsOf s (Err (fault.Refused r)) is gets = is (Err r)
TellsOf s (Err (fault.ReadFault name)) is gets = HasFailed s × gets name
TellsOf s (Err fault.NoMemory) is gets = Unit {0}

-- the same of a call over these files, with these counts before and behind it, whichever reads it is among
unfoldable pub Told : {A : Type 0} → Option Files → ℕ → ℕ → Result A Fault → (Reads → Result A Refusal → Type 0)
    → (Reads → List ℕ → Type 0) → Type 0
Told told before now r is gets = (s : Reads) → IsAmong told before now s → TellsOf s r (is s) (gets s)
