-- Worked rows: what statements take up, and where they stand.
use Rattle.std.proofs.Common.{◌≡◌, ℕ, List, [], ◌∷◌, Bool, true, false, refl, Some, codes}
use Rattle.std.specs.Prelude.{Result, Ok, Err}
use Rattle.sdt_word.specs.declared.codes.Condition.TheVariants.{Al}
use Rattle.sdt_fault.specs.declared.kinds.LineKind.{LineKind}
use Rattle.sdt_fault.specs.declared.kinds.LineKind.TheVariants.{Forward, BadOperand, WrongType}
use Rattle.asm_model.specs.declared.exprs.Expr.{Expr}
use Rattle.asm_model.specs.declared.exprs.ExprItem.{ExprItem}
use Rattle.asm_model.specs.declared.exprs.ExprItem.TheVariants as item
use Rattle.asm_model.specs.declared.exprs.BinaryOp.TheVariants as op
use Rattle.asm_model.specs.declared.values.Value.{Value}
use Rattle.asm_model.specs.declared.values.Value.TheVariants.{Number, Words, Place}
use Rattle.asm_model.specs.declared.names.LaidName.{LaidName}
use Rattle.asm_model.specs.declared.operands.Register.TheVariants as register
use Rattle.asm_model.specs.declared.statements.What.{What}
use Rattle.asm_model.specs.declared.statements.What.TheVariants as what
use Rattle.asm_model.specs.declared.statements.PseudoLine.TheVariants as pseudo
use Rattle.asm_model.specs.declared.thumb_lines.ThumbLine.TheVariants as thumb
use Rattle.asm_model.specs.declared.directives.Boundary.TheVariants as limit
use Rattle.asm_model.specs.declared.directives.DataItem.TheVariants as datum
use Rattle.asm_model.specs.declared.directives.DirectiveLine.{DirectiveLine}
use Rattle.asm_model.specs.declared.directives.DirectiveLine.TheVariants as line
use Rattle.asm_model.specs.declared.names.Names.{Names}
use Rattle.asm_model.specs.Entries.{label_entry, valued_entry, later_entry}
use Rattle.asm_model.specs.Extents.{Extent, Block, Padding, Loading, Pool, is_moved, is_power, extent_of}
use Rattle.asm_model.specs.Offsets.{Piece, end_behind, start_in, size_behind, waiting, area_size, literal_word}

-- ---- what statements take up

-- start at 0 and the string s are known; end isn't
abbrev names : List LaidName
names =
    label_entry (codes "start") (Some 0) 0 (Some 4) false ∷ valued_entry (codes "s") (Words (codes "four")) false
    ∷ later_entry (codes "end") false ∷ []

abbrev seen_in : Bool → Names
seen_in thumb = record { list = names; area = Some 0; offset = 8; map = 0; thumb = thumb }

abbrev items : List ExprItem → Expr
items is = record { items = is }

abbrev number : ℕ → Expr
number n = items (item.Constant (Number n) ∷ [])

abbrev name : List ℕ → Expr
name s = items (item.Name s ∷ [])

abbrev string : List ℕ → Expr
string s = items (item.Constant (Words s) ∷ [])

abbrev load : Expr → What
load e = what.Pseudo (pseudo.LoadConstant Al (register.Number 0) e)

abbrev arm : What → Result Extent LineKind
arm w = extent_of (seen_in false) w

abbrev data_extent : DirectiveLine → Result Extent LineKind
data_extent l = extent_of (seen_in false) (what.Directive l)

pub loads_number : arm (load (number 0x12345678)) ≡ Ok (Loading 4 (Number 0x12345678))
unfolding is_moved
loads_number = refl

pub moves_number : arm (load (number 0xFFFFFF00)) ≡ Ok (Block 4 4)
unfolding is_moved
moves_number = refl

pub thumb_loads : extent_of (seen_in true) (load (number 1)) ≡ Ok (Loading 2 (Number 1))
thumb_loads = refl

pub loads_later_name : arm (load (items (item.Name (codes "end") ∷ item.Constant (Number 4) ∷ item.Binary op.Add ∷ []))) ≡ Ok
    (Loading 4 (Place (codes "end") 4))
loads_later_name = refl

pub loads_no_product : arm (load (items (item.Name (codes "start") ∷ item.Constant (Number 4) ∷ item.Binary op.Multiply ∷ []))) ≡ Err Forward
loads_no_product = refl

pub long_address : arm (what.Pseudo (pseudo.LongAddress Al (register.Number 0) (name (codes "end")))) ≡ Ok (Block 4 8)
long_address = refl

pub thumb_call : extent_of (seen_in true) (what.Thumb (thumb.BranchLink (name (codes "end")))) ≡ Ok (Block 2 4)
thumb_call = refl

pub words : data_extent (line.Constants datum.Word (number 1 ∷ name (codes "end") ∷ [])) ≡ Ok (Block 4 8)
words = refl

pub strings_and_bytes : data_extent (line.Constants datum.Byte (string (codes "abc") ∷ number 7 ∷ name (codes "s") ∷ name (codes "end") ∷ [])) ≡ Ok (Block 1 9)
strings_and_bytes = refl

pub space_to_here : data_extent (line.Space (items (item.Here ∷ item.Name (codes "start") ∷ item.Binary op.Subtract ∷ []))) ≡ Ok (Block 1 8)
space_to_here = refl

pub space_to_later : data_extent (line.Space (name (codes "end"))) ≡ Err Forward
space_to_later = refl

pub space_of_label : data_extent (line.Space (name (codes "start"))) ≡ Err WrongType
space_of_label = refl

pub aligned_to_three : data_extent (line.Align (limit.Multiple (number 3))) ≡ Err BadOperand
unfolding is_power
aligned_to_three = refl

-- ---- where they stand

abbrev piece_in : ℕ → Extent → Piece
piece_in area e = record { area = Some area; extent = e }

abbrev literal : Value
literal = Number 0x12345678

-- LDR r0,=0x12345678 and SPACE 4096
pub pool_word : literal_word 0 (piece_in 0 (Loading 4 literal) ∷ []) (piece_in 0 (Block 1 4096) ∷ []) literal ≡ 4100
pool_word = refl

pub size_with_pool : area_size 0 (piece_in 0 (Block 1 4096) ∷ piece_in 0 (Loading 4 literal) ∷ []) ≡ 4104
size_with_pool = refl

-- DCB of 5 bytes, DCW, DCD, the nearest first
abbrev mixed : List Piece
mixed = piece_in 0 (Block 4 4) ∷ piece_in 0 (Block 2 2) ∷ piece_in 0 (Block 1 5) ∷ []

pub mixed_data : end_behind 0 mixed ≡ 12
mixed_data = refl

-- another area between
pub goes_on : start_in 0 (piece_in 1 (Block 4 4) ∷ mixed) (Block 1 1) ≡ 12
goes_on = refl

pub other_area : start_in 1 (piece_in 1 (Block 1 3) ∷ mixed) (Block 4 4) ≡ 4
other_area = refl

-- ALIGN behind 5 bytes
pub align_word : size_behind (Some 0) (piece_in 0 (Block 1 5) ∷ []) (Padding 4 0) ≡ 3
align_word = refl

-- ALIGN 8,2, where a label stands before the padding
pub align_behind : size_behind (Some 0) (piece_in 0 (Block 1 5) ∷ []) (Padding 8 2) ≡ 5
align_behind = refl

pub align_label : start_in 0 (piece_in 0 (Block 1 5) ∷ []) (Padding 8 2) ≡ 5
align_label = refl

-- the padding of an offset that stands right is empty
pub align_nothing : size_behind (Some 0) (piece_in 0 (Block 1 10) ∷ []) (Padding 8 10) ≡ 0
align_nothing = refl

-- two loads of one literal, one of another, and the first again behind LTORG
abbrev loads : List Piece
loads = piece_in 0 (Loading 4 literal) ∷ piece_in 0 Pool ∷ piece_in 0 (Loading 4 (Place (codes "f") 0)) ∷ piece_in 0 (Loading 4 literal)
    ∷ piece_in 0 (Loading 4 literal) ∷ []

pub pool_size : size_behind (Some 0) (piece_in 0 (Loading 4 (Place (codes "f") 0)) ∷ piece_in 0 (Loading 4 literal) ∷ piece_in 0 (Loading 4 literal) ∷ [])
    Pool ≡ 8
pool_size = refl

pub behind_pool : end_behind 0 loads ≡ 24
behind_pool = refl

pub waits_again : waiting 0 loads ≡ literal ∷ []
waits_again = refl

-- an LTORG without literals neither aligns nor takes bytes
pub empty_pool : end_behind 0 (piece_in 0 Pool ∷ piece_in 0 (Block 1 5) ∷ []) ≡ 5
empty_pool = refl

-- a Thumb load at 0, its pool aligned
pub thumb_pool : literal_word 0 (piece_in 0 (Loading 2 literal) ∷ []) [] literal ≡ 4
thumb_pool = refl

-- the end of an area is padded
pub padded_end : area_size 0 (piece_in 0 (Block 1 5) ∷ []) ≡ 8
padded_end = refl
