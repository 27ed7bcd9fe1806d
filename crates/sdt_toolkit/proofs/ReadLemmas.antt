-- Reads among others, and the causes of refusals there.
use Rattle.std.proofs.Common.{◌≡◌, ℕ, ◌≤◌, List, Option, Some, None, Result, Err, sym, subst, arith}
use Rattle.sdt_fault.specs.declared.answer.Fault.TheVariants as fault
use Rattle.sdt_fault.specs.declared.refusal.Refusal.{Refusal}
use Rattle.sdt_fault.specs.declared.refusal.Refusal.TheVariants.{Missing}
use Rattle.sdt_outside.specs.Counts.{Rose}
use Rattle.sdt_outside.specs.Files.{Files, IsMissing}
use Rattle.aof_object.specs.declared.records.Object.{Object}
use Rattle.armasm_core.specs.Assembling.{AssembledFrom, IsCaused, MayGet}
use Rattle.sdt_toolkit.specs.Reads.{Reads, HasCause, HasFailed, IsAmong}

pub failed_among : (told : Option Files) (before now : ℕ) (s : Reads) → IsAmong told before now s → Rose before now → HasFailed s
failed_among told before now s h r = omega (arith, h.first, h.last, r)

missing_more : (told : Option Files) (file : List ℕ) (P Q : Type 0) → (P → Q) → IsMissing told file P → IsMissing told file Q
missing_more None file P Q more h = more h
missing_more (Some files) file P Q more h = h

cause_more : (told : Option Files) (P Q : Type 0) → (P → Q) → (r : Refusal) → IsCaused told P (fault.Refused r) → IsCaused told Q (fault.Refused r)
cause_more told P Q more (Missing file) h = missing_more told file P Q more h
cause_more told P Q more r h = tt

pub cause_among : (told : Option Files) (before now : ℕ) (s : Reads) → IsAmong told before now s → (r : Refusal)
    → IsCaused told (Rose before now) (fault.Refused r) → HasCause {A = Object} s (Err r)
cause_among told before now s among r h =
    subst (λ (t : Option Files). IsCaused t (HasFailed s) (fault.Refused r)) (sym among.files)
    (cause_more told (Rose before now) (HasFailed s) (failed_among told before now s among) r h)

pub assembled_among : (told : Option Files) (before now : ℕ) (s : Reads) → IsAmong told before now s → (name text : List ℕ) (r : Result Object Refusal)
    → AssembledFrom told name text r → AssembledFrom s.told name text r
assembled_among told before now s among name text r h = subst (λ (t : Option Files). AssembledFrom t name text r) (sym among.files) h

pub got_among : (told : Option Files) (before now : ℕ) (s : Reads) → IsAmong told before now s → (name text file : List ℕ)
    → MayGet told name text file → MayGet s.told name text file
got_among told before now s among name text file h = subst (λ (t : Option Files). MayGet t name text file) (sym among.files) h

-- of calls one behind the other
pub among_later : (told here : Option Files) (before first last now : ℕ) (s : Reads) → here ≡ told → before ≤ first → last ≤ now
    → IsAmong told before now s → IsAmong here first last s
among_later told here before first last now s same le ge h = record {
  files = rw same h.files;
  first = omega (arith, h.first, le);
  last = omega (arith, h.last, ge);
}
