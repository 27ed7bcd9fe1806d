-- The answers of calls on a line.
use Rattle.std.proofs.Common.{ℕ, List}
use Rattle.std.specs.Prelude.{Result, Err}
use Rattle.sdt_fault.specs.declared.answer.Fault.{Fault}
use Rattle.sdt_fault.specs.declared.answer.Fault.TheVariants.{Refused, ReadFault, NoMemory}
use Rattle.sdt_fault.specs.declared.kinds.LineKind.{LineKind}
use Rattle.asm_model.specs.Told.{IsBadLine, ToldFault}

-- a refusal of the line with the kind of its fault
pub told_bad_line : {X : Type 0} (source : List ℕ) (number : ℕ) (Outcome : Result X LineKind → Type 0) (kind : LineKind) (f : Fault)
    → IsBadLine source number kind f → Outcome (Err kind) → ToldFault source number Outcome f
told_bad_line source number Outcome kind (Refused r) h o = (kind, h, o)
told_bad_line source number Outcome kind (ReadFault n) h o = h
told_bad_line source number Outcome kind NoMemory h o = tt
