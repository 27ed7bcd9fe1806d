-- How a call on a line answers. This project's.
use Rattle.std.specs.Prelude.{◌≡◌, ℕ, List, Result, Ok, Err}
use Rattle.sdt_fault.specs.declared.answer.Fault.{Fault}
use Rattle.sdt_fault.specs.declared.answer.Fault.TheVariants.{Refused, ReadFault, NoMemory}
use Rattle.sdt_fault.specs.declared.refusal.Refusal.TheVariants.{BadLine}
use Rattle.sdt_fault.specs.declared.kinds.LineKind.{LineKind}

-- the refusal of a line, or want of memory
abbrev pub IsBadLine : List ℕ → ℕ → LineKind → Fault → Type 0
IsBadLine source number kind (Refused refusal) = refusal ≡ BadLine source number kind
IsBadLine source number kind (ReadFault name) = ⊥
IsBadLine source number kind NoMemory = Unit {0}

-- the error of a call on a line: the line's fault, or want of memory
abbrev pub ToldFault : {X : Type 0} → List ℕ → ℕ → (Result X LineKind → Type 0) → Fault → Type 0
ToldFault source number Outcome (Refused refusal) =
    (kind : LineKind) × (refusal ≡ BadLine source number kind) × Outcome (Err kind)
ToldFault source number Outcome (ReadFault name) = ⊥
ToldFault source number Outcome NoMemory = Unit {0}

-- the answer of a call on a line, for which a definition has an outcome: a value, or the kind of a fault
abbrev pub Told : {X : Type 0} → List ℕ → ℕ → (Result X LineKind → Type 0) → Result X Fault → Type 0
Told source number Outcome (Ok x) = Outcome (Ok x)
Told source number Outcome (Err fault) = ToldFault source number Outcome fault

-- an answer that is the definition's, unless memory ran out
abbrev pub GivesFault : {X : Type 0} → Result X Fault → Fault → Type 0
GivesFault meaning (Refused refusal) = meaning ≡ Err (Refused refusal)
GivesFault meaning (ReadFault name) = meaning ≡ Err (ReadFault name)
GivesFault meaning NoMemory = Unit {0}

abbrev pub Gives : {X : Type 0} → Result X Fault → Result X Fault → Type 0
Gives meaning (Ok x) = meaning ≡ Ok x
Gives meaning (Err fault) = GivesFault meaning fault
