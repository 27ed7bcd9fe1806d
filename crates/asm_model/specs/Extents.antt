-- What a statement takes up in its area, by what is known at its line. SDT 2.50 Reference Guide, chapter on the
-- assembler. This project's: a label alone isn't aligned; a label on ALIGN stands before the padding; an operand of DCB
-- that is no string by what is known at its line counts one byte; LDR with a number that MOV or MVN encodes is one of
-- these in ARM state, and in Thumb state it always loads.
use Rattle.std.specs.Prelude.{ℕ, ◌+◌, ◌-◌, ◌*◌, ◌^◌, ◌==◌, ◌||◌, nat_lt, Bool, if◌then◌else◌}
use Rattle.std.specs.Prelude.{List, [], ◌∷◌, length, Option, Some, None, Result, Ok, Err}
use Rattle.std.specs.List.{list_any}
use Rattle.sdt_word.specs.Numbers.{rotated}
use Rattle.sdt_fault.specs.declared.kinds.LineKind.{LineKind}
use Rattle.sdt_fault.specs.declared.kinds.LineKind.TheVariants.{Syntax, BadOperand, WrongType}
use Rattle.asm_model.specs.declared.values.Value.{Value}
use Rattle.asm_model.specs.declared.values.Value.TheVariants.{Number, Words}
use Rattle.asm_model.specs.declared.exprs.Expr.{Expr}
use Rattle.asm_model.specs.declared.statements.What.{What}
use Rattle.asm_model.specs.declared.statements.What.TheVariants as what
use Rattle.asm_model.specs.declared.statements.PseudoLine.{PseudoLine}
use Rattle.asm_model.specs.declared.statements.PseudoLine.TheVariants as pseudo
use Rattle.asm_model.specs.declared.thumb_lines.ThumbLine.{ThumbLine}
use Rattle.asm_model.specs.declared.thumb_lines.ThumbLine.TheVariants as thumb
use Rattle.asm_model.specs.declared.directives.Boundary.{Boundary}
use Rattle.asm_model.specs.declared.directives.Boundary.TheVariants as limit
use Rattle.asm_model.specs.declared.directives.DirectiveLine.{DirectiveLine}
use Rattle.asm_model.specs.declared.directives.Held.{Held}
use Rattle.asm_model.specs.declared.directives.Held.TheVariants as held
use Rattle.asm_model.specs.declared.names.Names.{Names}
use Rattle.asm_model.specs.AtLine.{literal_at}
use Rattle.asm_model.specs.DataItems.{item_alignment, held_by}
use Rattle.asm_model.specs.Grammar.{Tree}
use Rattle.asm_model.specs.Meaning.{meaning}
use Rattle.asm_model.specs.Occupied.{Occupied, Unplaced, Opening, Marking, Entering, Items, Zeroes, UpTo, Literals, occupied}
use Rattle.asm_model.specs.Readings.{mapped, on_both}
use Rattle.asm_model.specs.Trees.{tree_of}

pub data Extent : Type 0 where
  -- an alignment and a number of bytes
  Block : ℕ → ℕ → Extent
  -- bytes up to an offset that is a multiple plus a number
  Padding : ℕ → ℕ → Extent
  -- an instruction of so many bytes, aligned to as many, that loads the literal from a pool
  Loading : ℕ → Value → Extent
  -- the pool of the literals before
  Pool : Extent

-- ---- values

abbrev pub tree_value : Names → Option Tree → Result Value LineKind
tree_value s None = Err Syntax
tree_value s (Some t) = meaning s t

-- the value of an expression by what is known at its line
abbrev pub value_there : Names → Expr → Result Value LineKind
value_there s e = tree_value s (tree_of e)

abbrev pub as_number : Result Value LineKind → Result ℕ LineKind
as_number (Ok (Number n)) = Ok n
as_number (Ok _) = Err WrongType
as_number (Err k) = Err k

-- the number of an expression by what is known at its line
abbrev pub number_there : Names → Expr → Result ℕ LineKind
number_there s e = as_number (value_there s e)

abbrev pub tree_literal : Names → Option Tree → Result Value LineKind
tree_literal s None = Err Syntax
tree_literal s (Some t) = literal_at s t

-- the literal of an expression by what is known at its line
abbrev pub literal_there : Names → Expr → Result Value LineKind
literal_there s e = tree_literal s (tree_of e)

-- ---- instructions

abbrev pub even_places : List ℕ
even_places = 0 ∷ 2 ∷ 4 ∷ 6 ∷ 8 ∷ 10 ∷ 12 ∷ 14 ∷ 16 ∷ 18 ∷ 20 ∷ 22 ∷ 24 ∷ 26 ∷ 28 ∷ 30 ∷ []

-- whether a number is a byte rotated by an even number of places
abbrev pub is_immediate : ℕ → Bool
is_immediate n = list_any (λ k. nat_lt (rotated n k) 256) even_places

-- whether MOV or MVN encodes a number
unfoldable pub is_moved : ℕ → Bool
is_moved n = is_immediate n || is_immediate (2 ^ 32 - 1 - n)

-- an instruction in Thumb or ARM state
abbrev pub instruction : Bool → Extent
instruction thumb = if thumb then Block 2 2 else Block 4 4

abbrev pub thumb_extent : ThumbLine → Extent
thumb_extent (thumb.ShiftImmediate by rd rs e) = Block 2 2
thumb_extent (thumb.AddSubtract subtract rd rs o) = Block 2 2
thumb_extent (thumb.DataImmediate operation rd e) = Block 2 2
thumb_extent (thumb.DataRegister operation rd rs) = Block 2 2
thumb_extent (thumb.HighRegister operation rd rs) = Block 2 2
thumb_extent (thumb.LoadLiteral rd a) = Block 2 2
thumb_extent (thumb.TransferRegister load byte rd rn ro) = Block 2 2
thumb_extent (thumb.TransferSigned kind rd rn ro) = Block 2 2
thumb_extent (thumb.TransferImmediate load byte rd rn e) = Block 2 2
thumb_extent (thumb.TransferHalf load rd rn e) = Block 2 2
thumb_extent (thumb.TransferStack load rd e) = Block 2 2
thumb_extent (thumb.LoadAddress stack rd e) = Block 2 2
thumb_extent (thumb.AdjustStack subtract e) = Block 2 2
thumb_extent (thumb.PushPop load list) = Block 2 2
thumb_extent (thumb.TransferMultiple load rn list) = Block 2 2
thumb_extent (thumb.BranchConditional c e) = Block 2 2
thumb_extent (thumb.SoftwareInterrupt e) = Block 2 2
thumb_extent (thumb.Branch e) = Block 2 2
thumb_extent (thumb.BranchLink e) = Block 2 4

-- LDR with a literal, in Thumb or ARM state
abbrev pub loading : Bool → Value → Extent
loading thumb (Number n) =
    if thumb then Loading 2 (Number n) else if is_moved n then Block 4 4 else Loading 4 (Number n)
loading thumb v = if thumb then Loading 2 v else Loading 4 v

abbrev pub pseudo_extent : Names → PseudoLine → Result Extent LineKind
pseudo_extent s (pseudo.LoadConstant condition rd value) = mapped (loading s.thumb) (literal_there s value)
pseudo_extent s (pseudo.Address condition rd target) = Ok (instruction s.thumb)
pseudo_extent s (pseudo.LongAddress condition rd target) = Ok (Block 4 8)
pseudo_extent s pseudo.NoOperation = Ok (instruction s.thumb)

-- ---- directives

-- the bytes of an operand of DCB
abbrev pub byte_count : Result Value LineKind → ℕ
byte_count (Ok (Words w)) = length w
byte_count _ = 1

abbrev pub byte_counts : Names → List Expr → ℕ
byte_counts s [] = 0
byte_counts s (e ∷ es) = byte_count (value_there s e) + byte_counts s es

abbrev pub powers : List ℕ
powers = 0 ∷ 1 ∷ 2 ∷ 3 ∷ 4 ∷ 5 ∷ 6 ∷ 7 ∷ 8 ∷ 9 ∷ 10 ∷ 11 ∷ 12 ∷ 13 ∷ 14 ∷ 15 ∷ 16 ∷ 17 ∷ 18 ∷ 19 ∷ 20 ∷ 21 ∷ 22 ∷ 23
    ∷ 24 ∷ 25 ∷ 26 ∷ 27 ∷ 28 ∷ 29 ∷ 30 ∷ 31 ∷ []

-- whether a number is a power of two
unfoldable pub is_power : ℕ → Bool
is_power n = list_any (λ k. n == 2 ^ k) powers

-- a number as a multiple to align to
abbrev pub as_multiple : Result ℕ LineKind → Result ℕ LineKind
as_multiple (Ok n) = if is_power n then Ok n else Err BadOperand
as_multiple (Err k) = Err k

abbrev pub padding : Names → Boundary → Result Extent LineKind
padding s limit.Word = Ok (Padding 4 0)
padding s (limit.Multiple e) = mapped (λ m. Padding m 0) (as_multiple (number_there s e))
padding s (limit.Behind e f) = on_both (λ m n. Padding m n) (as_multiple (number_there s e)) (number_there s f)

-- the bytes of values that are held so
abbrev pub held_size : Names → Held → List Expr → ℕ
held_size s held.Relocatable es = 4 * length es
held_size s (held.Fixed width) es = width * length es
held_size s held.Strings es = byte_counts s es

abbrev pub occupied_extent : Names → Occupied → Result Extent LineKind
occupied_extent s Unplaced = Ok (Block 1 0)
occupied_extent s (Opening a) = Ok (Block 1 0)
occupied_extent s Marking = Ok (Block 1 0)
occupied_extent s Entering = Ok (if s.thumb then Block 2 0 else Block 4 0)
occupied_extent s (Items item es) = Ok (Block (item_alignment item) (held_size s (held_by item) es))
occupied_extent s (Zeroes e) = mapped (λ n. Block 1 n) (number_there s e)
occupied_extent s (UpTo b) = padding s b
occupied_extent s Literals = Ok Pool

abbrev pub directive_extent : Names → DirectiveLine → Result Extent LineKind
directive_extent s l = occupied_extent s (occupied l)

-- what a statement takes up, or the kind of its fault
abbrev pub extent_of : Names → What → Result Extent LineKind
extent_of s what.Nothing = Ok (Block 1 0)
extent_of s (what.Arm l) = Ok (Block 4 4)
extent_of s (what.Thumb l) = Ok (thumb_extent l)
extent_of s (what.Pseudo l) = pseudo_extent s l
extent_of s (what.Directive l) = directive_extent s l

-- ---- alignments, which need no values

abbrev pub pool_alignment : List Value → ℕ
pool_alignment [] = 1
pool_alignment (v ∷ vs) = 4

abbrev pub pseudo_alignment : Bool → PseudoLine → ℕ
pseudo_alignment thumb (pseudo.LoadConstant condition rd value) = if thumb then 2 else 4
pseudo_alignment thumb (pseudo.Address condition rd target) = if thumb then 2 else 4
pseudo_alignment thumb (pseudo.LongAddress condition rd target) = 4
pseudo_alignment thumb pseudo.NoOperation = if thumb then 2 else 4

abbrev pub occupied_alignment : Bool → List Value → Occupied → ℕ
occupied_alignment thumb literals Unplaced = 1
occupied_alignment thumb literals (Opening a) = 1
occupied_alignment thumb literals Marking = 1
occupied_alignment thumb literals Entering = if thumb then 2 else 4
occupied_alignment thumb literals (Items item es) = item_alignment item
occupied_alignment thumb literals (Zeroes e) = 1
occupied_alignment thumb literals (UpTo b) = 1
occupied_alignment thumb literals Literals = pool_alignment literals

abbrev pub directive_alignment : Bool → List Value → DirectiveLine → ℕ
directive_alignment thumb literals l = occupied_alignment thumb literals (occupied l)

-- the alignment of a statement in a state, where these literals wait for a pool
abbrev pub alignment : Bool → List Value → What → ℕ
alignment thumb literals what.Nothing = 1
alignment thumb literals (what.Arm l) = 4
alignment thumb literals (what.Thumb l) = 2
alignment thumb literals (what.Pseudo l) = pseudo_alignment thumb l
alignment thumb literals (what.Directive l) = directive_alignment thumb literals l
