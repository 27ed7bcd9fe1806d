-- What assembly makes of a generated source: no refusal, and one object. This project's.
use Rattle.std.specs.Prelude.{◌≡◌, ℕ, ◌≤◌, List, Some, Result, Ok}
use Rattle.sdt_fault.specs.declared.refusal.Refusal.{Refusal}
use Rattle.sdt_outside.specs.Files.{Files}
use Rattle.aof_object.specs.declared.records.Object.{Object}
use Rattle.armasm_core.specs.Assembling.{AssembledFrom}
use Rattle.big_faults.specs.Big.{big_object}
use Rattle.big_model.specs.Sources.{big_text}

-- whatever files there are beside it, and whatever its name is
abbrev pub BigIsAssembled : Type 0
BigIsAssembled =
    (files : Files) (name : List ℕ) (n : ℕ) (made : Result Object Refusal) → n ≤ 50000
    → AssembledFrom (Some files) name (big_text n) made → made ≡ Ok (big_object n)
