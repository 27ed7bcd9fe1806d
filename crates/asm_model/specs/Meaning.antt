-- The value of an expression, by recursion on its brackets. The operators are those of the ARM SDT 2.50 Reference
-- Guide, chapter on the assembler; their meanings are this project's: arithmetic is modulo 2^32, division and
-- comparison are unsigned, and a label takes part only as label plus or minus a number and as the difference of
-- two labels of one area. Faults: of the operands' faults the first in the order of the kinds is handed on.
use Rattle.std.specs.Prelude.{◌≡◌, ℕ, ◌+◌, ◌-◌, ◌*◌, ◌/◌, ◌%◌, ◌^◌, bit_and, bit_or, bit_xor}
use Rattle.std.specs.Prelude.{nat_lt, ◌==◌, ◌&&◌, ◌||◌, not, Bool, true, false, if◌then◌else◌}
use Rattle.std.specs.Prelude.{List, [], ◌∷◌, ◌++◌, length, take, drop, codes, Option, Some, None, Result, Ok, Err}
use Rattle.std.specs.Int.{w32, rotate_left, rotate_right}
use Rattle.std.specs.declared.cmp.Ordering.{Ordering}
use Rattle.std.specs.Ordering.{nat_cmp, is_lt, is_le, is_eq, is_gt, is_ge}
use Rattle.std.specs.Cmp.Lexicographic.{slice_cmp}
use Rattle.sdt_fault.specs.declared.kinds.LineKind.{LineKind}
use Rattle.sdt_fault.specs.declared.kinds.LineKind.TheVariants.{Syntax, UnknownWord, Constant, Forward}
use Rattle.sdt_fault.specs.declared.kinds.LineKind.TheVariants.{WrongType, OutOfRange, DivideByZero, TooMany}
use Rattle.sdt_fault.specs.Digits.{hexadecimal_places}
use Rattle.asm_model.specs.declared.exprs.ExprItem.{ExprItem}
use Rattle.asm_model.specs.declared.exprs.ExprItem.TheVariants as item
use Rattle.asm_model.specs.declared.exprs.UnaryOp.{UnaryOp}
use Rattle.asm_model.specs.declared.exprs.UnaryOp.TheVariants as unary
use Rattle.asm_model.specs.declared.exprs.BinaryOp.{BinaryOp}
use Rattle.asm_model.specs.declared.exprs.BinaryOp.TheVariants.{Multiply, Divide, Modulo, Left, Right, Concatenate, RotateLeft}
use Rattle.asm_model.specs.declared.exprs.BinaryOp.TheVariants.{RotateRight, ShiftLeft, ShiftRight, Add, Subtract, And}
use Rattle.asm_model.specs.declared.exprs.BinaryOp.TheVariants.{Or, ExclusiveOr, Equal, NotEqual, Less, LessEqual, Greater}
use Rattle.asm_model.specs.declared.exprs.BinaryOp.TheVariants.{GreaterEqual, LogicalAnd, LogicalOr, LogicalExclusiveOr}
use Rattle.asm_model.specs.declared.values.Value.{Value}
use Rattle.asm_model.specs.declared.values.Value.TheVariants.{Number, Truth, Words, Place}
use Rattle.asm_model.specs.declared.values.EvalFault.{EvalFault}
use Rattle.asm_model.specs.declared.values.EvalFault.TheVariants as eval
use Rattle.asm_model.specs.declared.names.LaidName.{LaidName}
use Rattle.asm_model.specs.declared.names.Meaning.{Meaning}
use Rattle.asm_model.specs.declared.names.Meaning.TheVariants as means
use Rattle.asm_model.specs.declared.names.Names.{Names}
use Rattle.asm_model.specs.Forms.{same}
use Rattle.asm_model.specs.declared.exprs.Part.{Part}
use Rattle.asm_model.specs.Grammar.{Tree, Leaf, Before, Between, postfix, IsSpelled}
use Rattle.asm_model.specs.Readings.{and_then, then_both}
use Rattle.asm_model.specs.Limits.{string_bytes}

-- the first entry with the name
abbrev pub named_in : List ℕ → List LaidName → Option LaidName
named_in name [] = None
named_in name (n ∷ ns) = if same n.name name then Some n else named_in name ns

-- a difference modulo 2^32
abbrev pub less : ℕ → ℕ → ℕ
less m n = (m + (2 ^ 32 - n)) % 2 ^ 32

-- two numbers; a shift by 32 or more gives 0, and a rotation takes its amount modulo 32
abbrev pub arithmetic : BinaryOp → ℕ → ℕ → Result ℕ LineKind
arithmetic Multiply m n = Ok (m * n % 2 ^ 32)
arithmetic Divide m n = if n == 0 then Err DivideByZero else Ok (m / n)
arithmetic Modulo m n = if n == 0 then Err DivideByZero else Ok (m % n)
arithmetic RotateLeft m n = Ok (rotate_left w32 m n)
arithmetic RotateRight m n = Ok (rotate_right w32 m n)
arithmetic ShiftLeft m n = if nat_lt n 32 then Ok (m * 2 ^ n % 2 ^ 32) else Ok 0
arithmetic ShiftRight m n = if nat_lt n 32 then Ok (m / 2 ^ n) else Ok 0
arithmetic Add m n = Ok ((m + n) % 2 ^ 32)
arithmetic Subtract m n = Ok (less m n)
arithmetic And m n = Ok (bit_and m n)
arithmetic Or m n = Ok (bit_or m n)
arithmetic ExclusiveOr m n = Ok (bit_xor m n)
arithmetic _ m n = Err WrongType

-- a relation, by the order of its operands
abbrev pub related : BinaryOp → Ordering → Option Bool
related Equal o = Some (is_eq o)
related NotEqual o = Some (not (is_eq o))
related Less o = Some (is_lt o)
related LessEqual o = Some (is_le o)
related Greater o = Some (is_gt o)
related GreaterEqual o = Some (is_ge o)
related _ o = None

-- two truth values
abbrev pub logical : BinaryOp → Bool → Bool → Result Bool LineKind
logical LogicalAnd a b = Ok (a && b)
logical LogicalOr a b = Ok (a || b)
logical LogicalExclusiveOr a b = Ok (if a then not b else b)
logical _ a b = Err WrongType

-- two strings
abbrev pub joined_strings : BinaryOp → List ℕ → List ℕ → Result (List ℕ) LineKind
joined_strings Concatenate v w = if nat_lt string_bytes (length v + length w) then Err TooMany else Ok (v ++ w)
joined_strings _ v w = Err WrongType

-- a string and a number
abbrev pub cut_string : BinaryOp → List ℕ → ℕ → Result (List ℕ) LineKind
cut_string Left v n = if nat_lt (length v) n then Err OutOfRange else Ok (take n v)
cut_string Right v n = if nat_lt (length v) n then Err OutOfRange else Ok (drop (length v - n) v)
cut_string _ v n = Err WrongType

-- a place and a number: what is added to the symbol
abbrev pub moved_place : BinaryOp → ℕ → ℕ → Result ℕ LineKind
moved_place Add p n = Ok ((p + n) % 2 ^ 32)
moved_place Subtract p n = Ok (less p n)
moved_place _ p n = Err WrongType

-- a number and a place
abbrev pub added_place : BinaryOp → ℕ → ℕ → Result ℕ LineKind
added_place Add n p = Ok ((p + n) % 2 ^ 32)
added_place _ n p = Err WrongType

-- an area and an offset, where there is an area
abbrev pub in_area : Option ℕ → ℕ → Option (ℕ × ℕ)
in_area None offset = None
in_area (Some area) offset = Some (area, offset)

-- the area of an entry, and its offset there
abbrev pub entry_stands_at : Option LaidName → Option (ℕ × ℕ)
entry_stands_at None = None
entry_stands_at (Some n) = in_area n.area n.offset

-- the area of a symbol, and its offset there; the empty symbol is the start of this area
abbrev pub stands_at : Names → List ℕ → Option (ℕ × ℕ)
stands_at names [] = in_area names.area 0
stands_at names (c ∷ cs) = entry_stands_at (named_in (c ∷ cs) names.list)

-- the distance of two places in one area
abbrev pub distance : Option (ℕ × ℕ) → ℕ → Option (ℕ × ℕ) → ℕ → Result ℕ LineKind
distance (Some a) p (Some b) q = if a.0 == b.0 then Ok (less ((a.1 + p) % 2 ^ 32) ((b.1 + q) % 2 ^ 32)) else Err WrongType
distance _ p _ q = Err WrongType

-- two places
abbrev pub between_places : Names → BinaryOp → List ℕ → ℕ → List ℕ → ℕ → Result ℕ LineKind
between_places names Subtract s p t q = distance (stands_at names s) p (stands_at names t) q
between_places names _ s p t q = Err WrongType

abbrev pub as_number : Result ℕ LineKind → Result Value LineKind
as_number (Ok n) = Ok (Number n)
as_number (Err k) = Err k

abbrev pub as_truth : Result Bool LineKind → Result Value LineKind
as_truth (Ok b) = Ok (Truth b)
as_truth (Err k) = Err k

abbrev pub as_words : Result (List ℕ) LineKind → Result Value LineKind
as_words (Ok w) = Ok (Words w)
as_words (Err k) = Err k

abbrev pub as_place : List ℕ → Result ℕ LineKind → Result Value LineKind
as_place s (Ok p) = Ok (Place s p)
as_place s (Err k) = Err k

-- a relation, or else another operator
abbrev pub truth_or : Option Bool → Result Value LineKind → Result Value LineKind
truth_or (Some b) other = Ok (Truth b)
truth_or None other = other

-- an operator between two values
abbrev pub binary : Names → BinaryOp → Value → Value → Result Value LineKind
binary names op (Number m) (Number n) = truth_or (related op (nat_cmp m n)) (as_number (arithmetic op m n))
binary names op (Truth a) (Truth b) = as_truth (logical op a b)
binary names op (Words v) (Words w) = truth_or (related op (slice_cmp nat_cmp v w)) (as_words (joined_strings op v w))
binary names op (Words v) (Number n) = as_words (cut_string op v n)
binary names op (Place s p) (Number n) = as_place s (moved_place op p n)
binary names op (Number n) (Place s p) = as_place s (added_place op n p)
binary names op (Place s p) (Place t q) = as_number (between_places names op s p t q)
binary names op _ _ = Err WrongType

-- an operator before a value
abbrev pub unary_of : UnaryOp → Value → Result Value LineKind
unary_of unary.Plus (Number n) = Ok (Number n)
unary_of unary.Minus (Number n) = Ok (Number (less 0 n))
unary_of unary.Not (Number n) = Ok (Number (2 ^ 32 - 1 - n))
unary_of unary.LogicalNot (Truth b) = Ok (Truth (not b))
unary_of unary.Length (Words w) = if nat_lt string_bytes (length w) then Err TooMany else Ok (Number (length w))
unary_of unary.Character (Number n) = if nat_lt 255 n then Err OutOfRange else Ok (Words (n ∷ []))
unary_of unary.String (Number n) = Ok (Words (hexadecimal_places 8 n))
unary_of unary.String (Truth b) = Ok (Words (if b then codes "T" else codes "F"))
unary_of _ _ = Err WrongType

-- an operand: a value or faults, or a name that is not read yet, since ? and :DEF: speak of the name itself
pub data Operand : Type 0 where
  Known : Result Value LineKind → Operand
  Unread : Option LaidName → Operand

-- what a name stands for
abbrev pub meant : List ℕ → Meaning → Result Value LineKind
meant name means.Later = Err Forward
meant name means.Label = Ok (Place name 0)
meant name means.Imported = Ok (Place name 0)
meant name means.Place = Ok (Place name 0)
meant name (means.Known v) = Ok v
meant name (means.Faulty k) = Err k
meant name means.Register = Err WrongType

abbrev pub entry_value : LaidName → Result Value LineKind
entry_value n = meant n.name n.meaning

-- the value of a name
abbrev pub value_of : Option LaidName → Result Value LineKind
value_of None = Err UnknownWord
value_of (Some n) = entry_value n

abbrev pub known_size : Option ℕ → Result Value LineKind
known_size None = Err Forward
known_size (Some n) = Ok (Number n)

abbrev pub size_in : Meaning → Option ℕ → Result Value LineKind
size_in means.Later size = Err Forward
size_in means.Register size = Err WrongType
size_in _ size = known_size size

-- the size of a name
abbrev pub size_of : Option LaidName → Result Value LineKind
size_of None = Err UnknownWord
size_of (Some n) = size_in n.meaning n.size

abbrev pub is_later : Meaning → Bool
is_later means.Later = true
is_later _ = false

-- whether a name is defined
abbrev pub defined_of : Option LaidName → Result Value LineKind
defined_of None = Ok (Truth false)
defined_of (Some n) = if is_later n.meaning then Err Forward else Ok (Truth true)

abbrev pub known : Operand → Result Value LineKind
known (Known r) = r
known (Unread n) = value_of n

-- an operator before an operand
abbrev pub applied : UnaryOp → Operand → Result Value LineKind
applied unary.Size (Unread n) = size_of n
applied unary.Defined (Unread n) = defined_of n
applied op x = and_then (known x) (unary_of op)

-- an item that is an operand; a number that is too large is a faulty one, and a reference to a local label that is still
-- one names nothing
abbrev pub operand_of_item : Names → ExprItem → Operand
operand_of_item names (item.Name name) = Unread (named_in name names.list)
operand_of_item names (item.Local name) = Known (Err UnknownWord)
operand_of_item names (item.Constant v) = Known (Ok v)
operand_of_item names item.TooLarge = Known (Err Constant)
operand_of_item names item.Here = Known (Ok (Place [] names.offset))
operand_of_item names item.Map = Known (Ok (Number names.map))
operand_of_item names item.CodeSize = Known (Ok (Number (if names.thumb then 16 else 32)))
operand_of_item names (item.Unary op) = Known (Err Syntax)
operand_of_item names (item.Binary op) = Known (Err Syntax)

abbrev pub operand_of_tree : Names → Tree → Operand
operand_of_tree names (Leaf i) = operand_of_item names i
operand_of_tree names (Before op t) = Known (applied op (operand_of_tree names t))
operand_of_tree names (Between op t u) =
    Known (then_both (known (operand_of_tree names t)) (known (operand_of_tree names u)) (binary names op))

-- the value of an expression, or the kind of its fault that is told
abbrev pub meaning : Names → Tree → Result Value LineKind
meaning names t = known (operand_of_tree names t)

-- an answer that is the meaning, unless memory ran out
abbrev pub IsFault : Result Value LineKind → EvalFault → Type 0
IsFault m (eval.Kind k) = m ≡ Err k
IsFault m eval.NoMemory = Unit {0}

abbrev pub IsValue : Result Value LineKind → Result Value EvalFault → Type 0
IsValue m (Ok v) = m ≡ Ok v
IsValue m (Err e) = IsFault m e

-- the answer for the items of an expression that tokens may spell
abbrev pub Evaluates : Names → List ExprItem → Result Value EvalFault → Type 0
Evaluates names items result =
    (ps : List Part) (t : Tree) → IsSpelled ps t → items ≡ postfix t → IsValue (meaning names t) result
