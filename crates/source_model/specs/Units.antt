-- What a statement puts into its area: bytes, words that may be relocated, and instructions of its state, one behind the
-- other; all else is zero. A word with a label of its own source holds the label's offset and is relocated by the area, and any other
-- place by its symbol. SDT 2.50 Reference Guide, chapter on the assembler, and ARM Object Format; ranges and kinds of
-- faults are this project's.
use Rattle.std.specs.Prelude.{ℕ, ◌+◌, ◌-◌, ◌*◌, ◌%◌, ◌^◌, ◌||◌, nat_lt, nat_le, List, [], ◌∷◌, Bool, true, false, if◌then◌else◌, Option, Some, None, Result, Ok, Err}
use Rattle.sdt_word.specs.Bytes.{bytes_of}
use Rattle.sdt_fault.specs.declared.kinds.LineKind.{LineKind}
use Rattle.sdt_fault.specs.declared.kinds.LineKind.TheVariants.{Forward, WrongType, OutOfRange}
use Rattle.arm_isa.specs.declared.instr.ArmInstr.{ArmInstr}
use Rattle.thumb_isa.specs.declared.instr.ThumbInstr.{ThumbInstr}
use Rattle.asm_model.specs.declared.exprs.Expr.{Expr}
use Rattle.asm_model.specs.declared.values.Value.{Value}
use Rattle.asm_model.specs.declared.values.Value.TheVariants.{Number, Words, Place}
use Rattle.asm_model.specs.declared.names.Names.{Names}
use Rattle.asm_model.specs.declared.arm_lines.ArmLine.{ArmLine}
use Rattle.asm_model.specs.declared.thumb_lines.ThumbLine.{ThumbLine}
use Rattle.asm_model.specs.declared.statements.PseudoLine.{PseudoLine}
use Rattle.asm_model.specs.declared.directives.DirectiveLine.{DirectiveLine}
use Rattle.asm_model.specs.declared.directives.Held.{Held}
use Rattle.asm_model.specs.declared.directives.Held.TheVariants as held
use Rattle.asm_model.specs.declared.statements.What.{What}
use Rattle.asm_model.specs.declared.statements.What.TheVariants as what
use Rattle.asm_model.specs.Meaning.{stands_at}
use Rattle.asm_model.specs.Extents.{value_there}
use Rattle.asm_model.specs.DataItems.{held_by}
use Rattle.asm_model.specs.Marks.{counts_one, thumb_bit}
use Rattle.asm_model.specs.Occupied.{Occupied, Unplaced, Opening, Marking, Entering, Items, Zeroes, UpTo, Literals, occupied}
use Rattle.asm_model.specs.Symbols.{arm_target, thumb_target}
use Rattle.source_model.specs.Contexts.{Context, sees, value_of, number_in}
use Rattle.asm_model.specs.Readings.{and_then, mapped, on_both}
use Rattle.source_model.specs.ArmForms.{arm_instruction, is_settled}
use Rattle.source_model.specs.PseudoForms.{pseudo_instructions}
use Rattle.source_model.specs.declared.codes.ThumbCode.{ThumbCode}
use Rattle.source_model.specs.declared.codes.ThumbCode.TheVariants as code
use Rattle.source_model.specs.ThumbForms.{thumb_instruction, thumb_pseudo}

-- what a word is relocated by
pub data RelocationTarget : Type 0 where
  Nothing : RelocationTarget
  ByArea : ℕ → RelocationTarget
  BySymbol : List ℕ → RelocationTarget

-- what a word holds before it is relocated
pub record Stored : Type 0 where
  pub number : ℕ
  pub target : RelocationTarget

pub data Emitted : Type 0 where
  Bytes : List ℕ → Emitted
  Word : Stored → Emitted
  -- with the symbol of a branch that is left to the linker
  Instruction : ArmInstr → Option (List ℕ) → Emitted
  -- an instruction of Thumb state
  Half : ThumbInstr → Emitted
  -- BL of Thumb state: the fields of both halves, with the symbol of one that is left to the linker
  LinkPair : ℕ → ℕ → Option (List ℕ) → Emitted

-- ---- words

-- of these names labels are data
abbrev pub placed : Context → List (List ℕ) → List ℕ → ℕ → Option (ℕ × ℕ) → Stored
placed c data_names s n None = record { number = n; target = BySymbol s }
placed c data_names s n (Some a) = record {
  number = (a.1 + n + thumb_bit (counts_one data_names (sees c) s)) % 2 ^ 32;
  target = ByArea a.0;
}

abbrev pub stored : Context → List (List ℕ) → Result Value LineKind → Result Stored LineKind
stored c data_names (Ok (Number n)) = Ok (record { number = n; target = Nothing })
stored c data_names (Ok (Place s n)) = Ok (placed c data_names s n (stands_at (sees c) s))
stored c data_names (Ok _) = Err WrongType
stored c data_names (Err k) = Err k

abbrev pub word_units : Context → List (List ℕ) → List Expr → Result (List Emitted) LineKind
word_units c data_names [] = Ok []
word_units c data_names (e ∷ es) =
    on_both (λ w us. Word w ∷ us) (stored c data_names (value_of c e)) (word_units c data_names es)

-- ---- numbers and strings

-- a number in so many bytes, from the least signed one to the greatest unsigned one
abbrev pub narrow : ℕ → ℕ → Result (List ℕ) LineKind
narrow size n =
    if nat_lt n (2 ^ (8 * size)) || nat_le (2 ^ 32 - 2 ^ (8 * size - 1)) n then Ok (bytes_of (n % 2 ^ (8 * size)) size) else Err OutOfRange

-- numbers in so many bytes each
abbrev pub number_units : Context → ℕ → List Expr → Result (List Emitted) LineKind
number_units c width [] = Ok []
number_units c width (e ∷ es) = on_both (λ b us. Bytes b ∷ us) (and_then (number_in c e) (narrow width)) (number_units c width es)

-- an operand of DCB, by what is known at its line and in the end: a string that isn't known at its line comes too late
abbrev pub byte_operand : Result Value LineKind → Result Value LineKind → Result (List ℕ) LineKind
byte_operand (Ok (Words w)) _ = Ok w
byte_operand known (Ok (Words w)) = Err Forward
byte_operand known (Ok (Number n)) = narrow 1 n
byte_operand known (Ok _) = Err WrongType
byte_operand known (Err k) = Err k

abbrev pub byte_units : Context → Names → List Expr → Result (List Emitted) LineKind
byte_units c s [] = Ok []
byte_units c s (e ∷ es) = on_both (λ b us. Bytes b ∷ us) (byte_operand (value_there s e) (value_of c e)) (byte_units c s es)

-- ---- instructions

abbrev pub linked_symbol : Context → Result Value LineKind → Option (List ℕ)
linked_symbol c (Ok (Place (x ∷ xs) n)) = if is_settled c (x ∷ xs) then None else Some (x ∷ xs)
linked_symbol c _ = None

abbrev pub target_symbol : Context → Option Expr → Option (List ℕ)
target_symbol c None = None
target_symbol c (Some e) = linked_symbol c (value_of c e)

abbrev pub branch_symbol : Context → ArmLine → Option (List ℕ)
branch_symbol c l = target_symbol c (arm_target l)

abbrev pub link_symbol : Context → ThumbLine → Option (List ℕ)
link_symbol c l = target_symbol c (thumb_target l)

abbrev pub code_unit : Option (List ℕ) → ThumbCode → Emitted
code_unit symbol (code.One i) = Half i
code_unit symbol (code.Pair first second) = LinkPair first second symbol

abbrev pub instruction_units : List ArmInstr → List Emitted
instruction_units [] = []
instruction_units (i ∷ is) = Instruction i None ∷ instruction_units is

-- in Thumb or ARM state
abbrev pub pseudo_units : Bool → Context → Option ℕ → PseudoLine → Result (List Emitted) LineKind
pseudo_units true c word l = mapped (λ i. Half i ∷ []) (thumb_pseudo c word l)
pseudo_units false c word l = mapped instruction_units (pseudo_instructions c word l)

-- ---- all

-- values that are held so
abbrev pub held_units : Context → List (List ℕ) → Names → Held → List Expr → Result (List Emitted) LineKind
held_units c data_names s held.Relocatable es = word_units c data_names es
held_units c data_names s (held.Fixed width) es = number_units c width es
held_units c data_names s held.Strings es = byte_units c s es

abbrev pub occupied_units : Context → List (List ℕ) → Names → Occupied → Result (List Emitted) LineKind
occupied_units c data_names s Unplaced = Ok []
occupied_units c data_names s (Opening a) = Ok []
occupied_units c data_names s Marking = Ok []
occupied_units c data_names s Entering = Ok []
occupied_units c data_names s (Items item es) = held_units c data_names s (held_by item) es
occupied_units c data_names s (Zeroes e) = Ok []
occupied_units c data_names s (UpTo b) = Ok []
occupied_units c data_names s Literals = Ok []

abbrev pub directive_units : Context → List (List ℕ) → Names → DirectiveLine → Result (List Emitted) LineKind
directive_units c data_names s l = occupied_units c data_names s (occupied l)

-- of a statement that sees this at its line, whose literal has its word at an offset, if it has one
abbrev pub units : Context → List (List ℕ) → Names → Option ℕ → What → Result (List Emitted) LineKind
units c data_names s word what.Nothing = Ok []
units c data_names s word (what.Arm l) = mapped (λ i. Instruction i (branch_symbol c l) ∷ []) (arm_instruction c l)
units c data_names s word (what.Thumb l) = mapped (λ i. code_unit (link_symbol c l) i ∷ []) (thumb_instruction c l)
units c data_names s word (what.Pseudo l) = pseudo_units c.line.thumb c word l
units c data_names s word (what.Directive l) = directive_units c data_names s l
