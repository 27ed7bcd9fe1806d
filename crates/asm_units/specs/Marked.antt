-- Operands of DCB, by marks of those that are strings by what is known at their line. SDT 2.50 Reference Guide, chapter on
-- the assembler; the marks are this project's.
use Rattle.std.specs.Prelude.{ℕ, List, [], ◌∷◌, Bool, false, if◌then◌else◌, Result, Ok, Err}
use Rattle.sdt_fault.specs.declared.kinds.LineKind.{LineKind}
use Rattle.sdt_fault.specs.declared.kinds.LineKind.TheVariants.{Forward, WrongType}
use Rattle.asm_model.specs.declared.exprs.Expr.{Expr}
use Rattle.asm_model.specs.declared.values.Value.{Value}
use Rattle.asm_model.specs.declared.values.Value.TheVariants.{Number, Words}
use Rattle.asm_model.specs.declared.directives.DirectiveLine.{DirectiveLine}
use Rattle.asm_model.specs.declared.directives.Held.{Held}
use Rattle.asm_model.specs.declared.directives.Held.TheVariants as held
use Rattle.asm_model.specs.DataItems.{held_by}
use Rattle.asm_model.specs.Occupied.{Occupied, Unplaced, Opening, Marking, Entering, Items, Zeroes, UpTo, Literals, occupied}
use Rattle.asm_model.specs.declared.directives.DirectiveLine.TheVariants as line
use Rattle.asm_model.specs.Readings.{on_both}
use Rattle.source_model.specs.Contexts.{Context, value_of}
use Rattle.source_model.specs.Units.{Emitted, Bytes, narrow, word_units, number_units}

-- an operand whose value is known in the end, and its mark
abbrev pub marked_operand : Bool → Result Value LineKind → Result (List ℕ) LineKind
marked_operand mark (Ok (Words w)) = if mark then Ok w else Err Forward
marked_operand mark (Ok (Number n)) = narrow 1 n
marked_operand mark (Ok _) = Err WrongType
marked_operand mark (Err k) = Err k

abbrev pub first_mark : List Bool → Bool
first_mark [] = false
first_mark (m ∷ ms) = m

abbrev pub other_marks : List Bool → List Bool
other_marks [] = []
other_marks (m ∷ ms) = ms

abbrev pub marked_units : Context → List Bool → List Expr → Result (List Emitted) LineKind
marked_units c marks [] = Ok []
marked_units c marks (e ∷ es) =
    on_both (λ b us. Bytes b ∷ us) (marked_operand (first_mark marks) (value_of c e)) (marked_units c (other_marks marks) es)

-- values that are held so
abbrev pub marked_held : Context → List (List ℕ) → List Bool → Held → List Expr → Result (List Emitted) LineKind
marked_held c data_names marks held.Relocatable es = word_units c data_names es
marked_held c data_names marks (held.Fixed width) es = number_units c width es
marked_held c data_names marks held.Strings es = marked_units c marks es

abbrev pub marked_occupied : Context → List (List ℕ) → List Bool → Occupied → Result (List Emitted) LineKind
marked_occupied c data_names marks Unplaced = Ok []
marked_occupied c data_names marks (Opening a) = Ok []
marked_occupied c data_names marks Marking = Ok []
marked_occupied c data_names marks Entering = Ok []
marked_occupied c data_names marks (Items item es) = marked_held c data_names marks (held_by item) es
marked_occupied c data_names marks (Zeroes e) = Ok []
marked_occupied c data_names marks (UpTo b) = Ok []
marked_occupied c data_names marks Literals = Ok []

abbrev pub marked_directive : Context → List (List ℕ) → List Bool → DirectiveLine → Result (List Emitted) LineKind
marked_directive c data_names marks l = marked_occupied c data_names marks (occupied l)
