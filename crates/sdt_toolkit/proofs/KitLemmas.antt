-- The kit's object has a short spelling, and answers where it could not be written.
use Rattle.std.proofs.Common.{◌≡◌, ℕ, ◌^◌, List, Bool, true, cond, nat_lt, Option, Result, Ok, Err, refl, ap}
use Rattle.sdt_fault.specs.declared.answer.Fault.{Fault}
use Rattle.sdt_fault.specs.declared.answer.Fault.TheVariants as fault
use Rattle.sdt_fault.specs.declared.kinds.Quantity.TheVariants.{FileBytes}
use Rattle.sdt_fault.specs.declared.refusal.Refusal.{Refusal}
use Rattle.sdt_fault.specs.declared.refusal.Refusal.TheVariants.{TooLarge}
use Rattle.sdt_outside.specs.Files.{Files}
use Rattle.chunk_file.specs.Chunks.{file_size}
use Rattle.chunk_file.specs.Reading.{Gives}
use Rattle.aof_object.specs.Spelling.{chunks_of, spelled, written}
use Rattle.irq_kit.specs.Kit.{kit_of}
use Rattle.tool_answers.specs.Outcomes.{Writes}
use Rattle.tool_library.specs.Libraries.{fault_answer}
use Rattle.sdt_toolkit.specs.Kits.{kit_file}

pub kit_written : (acknowledge : ℕ) → written (kit_of acknowledge) ≡ Ok (kit_file acknowledge)
kit_written acknowledge =
    let short : nat_lt (file_size (chunks_of (kit_of acknowledge))) (2 ^ 32) ≡ true = refl in
    ap (λ (b : Bool). cond b (Ok (spelled (kit_of acknowledge))) (Err (TooLarge FileBytes 0xFFFFFFFF))) short

pub unwritten : (e : Fault) (name bytes : List ℕ) (before : Option Files) (rose : Type 0) → Gives (Err e) (Ok bytes) → Writes name bytes before before rose (fault_answer e)
unwritten fault.NoMemory name bytes before rose h = refl
unwritten (fault.Refused r) name bytes before rose h = absurd (let bad : ◌≡◌ {A = Result (List ℕ) Refusal} (Ok bytes) (Err r) = h in cc)
unwritten (fault.ReadFault q) name bytes before rose h = absurd h
