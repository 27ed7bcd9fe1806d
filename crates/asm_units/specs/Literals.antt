-- A literal's name with a number added. This project's.
use Rattle.std.specs.Prelude.{ℕ, ◌+◌, ◌%◌, ◌^◌, Option, Some, None, Result, Ok, Err}
use Rattle.sdt_fault.specs.declared.kinds.LineKind.{LineKind}
use Rattle.sdt_fault.specs.declared.kinds.LineKind.TheVariants.{WrongType}
use Rattle.asm_model.specs.declared.values.Value.{Value}
use Rattle.asm_model.specs.declared.values.Value.TheVariants.{Number, Place}
use Rattle.asm_model.specs.Extents.{Extent, Loading}

abbrev pub moved : Result Value LineKind → ℕ → Result Value LineKind
moved (Ok (Number m)) n = Ok (Number ((m + n) % 2 ^ 32))
moved (Ok (Place s m)) n = Ok (Place s ((m + n) % 2 ^ 32))
moved (Ok _) n = Err WrongType
moved (Err k) n = Err k

-- the literal that a statement loads
abbrev pub literal_in : Extent → Option Value
literal_in (Loading n v) = Some v
literal_in _ = None
