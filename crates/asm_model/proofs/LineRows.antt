-- Worked rows: what is known at a line.
use Rattle.std.proofs.Common.{◌≡◌, ℕ, List, [], ◌∷◌, true, false, refl, Option, Some, None, codes}
use Rattle.std.specs.Prelude.{Result, Ok, Err}
use Rattle.sdt_fault.specs.declared.kinds.LineKind.{LineKind}
use Rattle.sdt_fault.specs.declared.kinds.LineKind.TheVariants.{Forward, UnknownWord, WrongType, DivideByZero}
use Rattle.asm_model.specs.declared.exprs.ExprItem.TheVariants as item
use Rattle.asm_model.specs.declared.exprs.UnaryOp.TheVariants as unary
use Rattle.asm_model.specs.declared.exprs.BinaryOp.TheVariants.{Multiply, Divide, Add, Subtract}
use Rattle.asm_model.specs.declared.values.Value.{Value}
use Rattle.asm_model.specs.declared.values.Value.TheVariants.{Number, Truth, Place}
use Rattle.asm_model.specs.declared.names.LaidName.{LaidName}
use Rattle.asm_model.specs.AtLine.{Definition, Named, Equated, SourceLine, names_at, seen_behind, known_value, literal_at}
use Rattle.asm_model.specs.Entries.{label_entry, register_entry, later_entry, equal_entry}
use Rattle.asm_model.specs.Grammar.{Tree, Leaf, Before, Between}

abbrev label : List ℕ → ℕ → Option ℕ → LaidName
label name offset size = label_entry name (Some 0) offset size false

abbrev equal : List ℕ → Result Value LineKind → LaidName
equal name r = equal_entry [] (Some 0) name r

abbrev name : List ℕ → Tree
name s = Leaf (item.Name s)

abbrev number : ℕ → Tree
number n = Leaf (item.Constant (Number n))

abbrev line_at : ℕ → Definition → SourceLine
line_at offset definition =
    record { area = Some 0; offset = offset; map = 0; thumb = false; definition = definition }

-- start at 0; n EQU 4; m EQU end - start; zero EQU 1/0; r RN 1; then the label here at 8, and end at 12
abbrev all : List LaidName
all =
    later_entry (codes "start") false ∷ later_entry (codes "n") false ∷ later_entry (codes "m") false ∷ later_entry (codes "zero") false
    ∷ later_entry (codes "r") false ∷ later_entry (codes "here") false ∷ later_entry (codes "end") false ∷ []

-- the nearest first
abbrev before_here : List SourceLine
before_here =
    line_at 4 (Named (register_entry (codes "r")))
    ∷ line_at 4 (Equated (equal (codes "zero")) (Between Divide (number 1) (number 0)))
    ∷ line_at 4 (Equated (equal (codes "m")) (Between Subtract (name (codes "end")) (name (codes "start"))))
    ∷ line_at 4 (Equated (equal (codes "n")) (number 4))
    ∷ line_at 0 (Named (label (codes "start") 0 (Some 4))) ∷ []

abbrev value : Tree → Result Value LineKind
value t = known_value all before_here (line_at 8 (Named (label (codes "here") 8 None))) t

abbrev literal : Tree → Result Value LineKind
literal t = literal_at (names_at all (seen_behind all before_here) (line_at 8 (Named (label (codes "here") 8 None)))) t

pub own_place : value (Between Subtract (name (codes "here")) (name (codes "start"))) ≡ Ok (Number 8)
own_place = refl

pub this_place : value (Between Subtract (Leaf item.Here) (name (codes "start"))) ≡ Ok (Number 8)
this_place = refl

pub own_size : value (Before unary.Size (name (codes "here"))) ≡ Err Forward
own_size = refl

pub size_before : value (Before unary.Size (name (codes "start"))) ≡ Ok (Number 4)
size_before = refl

pub later_label : value (Between Subtract (name (codes "end")) (name (codes "start"))) ≡ Err Forward
later_label = refl

pub expression_of_a_later_label : value (name (codes "m")) ≡ Err Forward
expression_of_a_later_label = refl

-- a reference that names no label
pub no_such_label : value (Leaf (item.Local (codes "%F1"))) ≡ Err UnknownWord
no_such_label = refl

pub no_such_name : value (Between Add (name (codes "end")) (name (codes "none"))) ≡ Err UnknownWord
no_such_name = refl

pub name_before_division : value (Between Add (Between Divide (number 1) (number 0)) (name (codes "end"))) ≡ Err Forward
name_before_division = refl

pub division : value (Between Divide (name (codes "n")) (number 0)) ≡ Err DivideByZero
division = refl

-- a name for an expression hands on its fault, and is defined all the same
pub faulty_name : value (Between Add (name (codes "zero")) (number 1)) ≡ Err DivideByZero
faulty_name = refl

pub later_before_faulty : value (Between Add (name (codes "zero")) (name (codes "end"))) ≡ Err Forward
later_before_faulty = refl

pub faulty_is_defined : value (Before unary.Defined (name (codes "zero"))) ≡ Ok (Truth true)
faulty_is_defined = refl

pub faulty_size : value (Before unary.Size (name (codes "zero"))) ≡ Ok (Number 0)
faulty_size = refl

pub name_of_a_register : value (name (codes "r")) ≡ Err WrongType
name_of_a_register = refl

pub size_of_a_register : value (Before unary.Size (name (codes "r"))) ≡ Err WrongType
size_of_a_register = refl

pub register_is_defined : value (Before unary.Defined (name (codes "r"))) ≡ Ok (Truth true)
register_is_defined = refl

pub product_of_a_label : value (Between Multiply (name (codes "start")) (number 2)) ≡ Err WrongType
product_of_a_label = refl

pub defined_nowhere : value (Before unary.Defined (name (codes "none"))) ≡ Ok (Truth false)
defined_nowhere = refl

pub defined_later : value (Before unary.Defined (name (codes "end"))) ≡ Err Forward
defined_later = refl

pub known_literal : literal (Between Multiply (name (codes "n")) (number 2)) ≡ Ok (Number 8)
known_literal = refl

pub later_literal : literal (Between Add (name (codes "m")) (number 4)) ≡ Ok (Place (codes "m") 4)
later_literal = refl

pub literal_of_no_name : literal (Between Subtract (name (codes "none")) (number 4)) ≡ Ok (Place (codes "none") 4294967292)
literal_of_no_name = refl

pub faulty_literal : literal (name (codes "zero")) ≡ Ok (Place (codes "zero") 0)
faulty_literal = refl

pub literal_product : literal (Between Multiply (name (codes "end")) (number 2)) ≡ Err Forward
literal_product = refl
