-- What tokens are in an expression. ARM SDT 2.50 Reference Guide, chapter on the assembler; the values of
-- {CONFIG}, {CODESIZE} and {ENDIAN} are this project's.
use Rattle.std.specs.Prelude.{ℕ, ◌+◌, ◌-◌, ◌*◌, ◌^◌, nat_lt, nat_le, ◌==◌, true, false, if◌then◌else◌}
use Rattle.std.specs.Prelude.{List, [], ◌∷◌, length, take, drop, codes, fold}
use Rattle.asm_model.specs.declared.tokens.Token.{Token}
use Rattle.asm_model.specs.declared.tokens.TokenKind.{TokenKind}
use Rattle.asm_model.specs.declared.tokens.TokenKind.TheVariants as kind
use Rattle.asm_model.specs.declared.exprs.ExprItem.{ExprItem}
use Rattle.asm_model.specs.declared.exprs.ExprItem.TheVariants as item
use Rattle.asm_model.specs.declared.exprs.Part.{Part}
use Rattle.asm_model.specs.declared.exprs.Part.TheVariants.{Operand, Open, Close, Prefix, OfName, Infix, Sum, Other}
use Rattle.asm_model.specs.declared.exprs.UnaryOp.TheVariants as unary
use Rattle.asm_model.specs.declared.exprs.BinaryOp.TheVariants as binary
use Rattle.asm_model.specs.declared.values.Value.TheVariants.{Number, Truth, Words}
use Rattle.asm_model.specs.Forms.{same}

-- the bytes of a token
abbrev pub piece : List ℕ → Token → List ℕ
piece text t = take (t.end - t.start) (drop t.start text)

-- what a digit stands for
abbrev pub digit_value : ℕ → ℕ
digit_value c = if nat_le c 57 then c - 48 else if nat_le c 70 then c - 55 else c - 87

-- what digits stand for in a base, the highest first
abbrev pub digits_value : ℕ → List ℕ → ℕ
digits_value base digits = fold (λ n c. base * n + digit_value c) 0 digits

-- what a number stands for: 0x and & are hexadecimal, and a digit before '_' names the base
abbrev pub number_value : List ℕ → ℕ
number_value [] = 0
number_value (a ∷ []) = digits_value 10 (a ∷ [])
number_value (a ∷ b ∷ digits) =
    if a == 38 then digits_value 16 (b ∷ digits)
    else if b == 120 then digits_value 16 digits
    else if b == 95 then digits_value (a - 48) digits
    else digits_value 10 (a ∷ b ∷ digits)

-- a written number
abbrev pub number_item : ℕ → ExprItem
number_item n = if nat_lt n (2 ^ 32) then item.Constant (Number n) else item.TooLarge

-- the bytes of a string behind its first quote, up to its last, with one quote for two
abbrev pub undoubled : List ℕ → List ℕ
undoubled [] = []
undoubled (c ∷ []) = []
undoubled (c ∷ d ∷ cs) = if c == 34 then 34 ∷ undoubled cs else c ∷ undoubled (d ∷ cs)

-- the byte of a character between quotes
abbrev pub character_value : List ℕ → ℕ
character_value [] = 0
character_value (q ∷ []) = 0
character_value (q ∷ c ∷ cs) = c

-- a word in braces as an operand
abbrev pub braced_part : List ℕ → Part
braced_part s =
    if same s (codes "{TRUE}") then Operand (item.Constant (Truth true))
    else if same s (codes "{FALSE}") then Operand (item.Constant (Truth false))
    else if same s (codes "{PC}") then Operand item.Here
    else if same s (codes "{VAR}") then Operand item.Map
    else if same s (codes "{CONFIG}") then Operand item.CodeSize
    else if same s (codes "{CODESIZE}") then Operand item.CodeSize
    else if same s (codes "{ENDIAN}") then Operand (item.Constant (Words (codes "little")))
    else Other

-- an operator of letters between truth values, or bit by bit
abbrev pub worded_logic : List ℕ → Part
worded_logic s =
    if same s (codes ":AND:") then Infix binary.And
    else if same s (codes ":OR:") then Infix binary.Or
    else if same s (codes ":EOR:") then Infix binary.ExclusiveOr
    else if same s (codes ":LAND:") then Infix binary.LogicalAnd
    else if same s (codes ":LOR:") then Infix binary.LogicalOr
    else if same s (codes ":LEOR:") then Infix binary.LogicalExclusiveOr
    else Other

-- an operator of letters between two operands
abbrev pub worded_infix : List ℕ → Part
worded_infix s =
    if same s (codes ":MOD:") then Infix binary.Modulo
    else if same s (codes ":LEFT:") then Infix binary.Left
    else if same s (codes ":RIGHT:") then Infix binary.Right
    else if same s (codes ":CC:") then Infix binary.Concatenate
    else if same s (codes ":ROL:") then Infix binary.RotateLeft
    else if same s (codes ":ROR:") then Infix binary.RotateRight
    else if same s (codes ":SHL:") then Infix binary.ShiftLeft
    else if same s (codes ":SHR:") then Infix binary.ShiftRight
    else worded_logic s

-- an operator that has letters
abbrev pub worded_part : List ℕ → Part
worded_part s =
    if same s (codes ":NOT:") then Prefix unary.Not
    else if same s (codes ":LNOT:") then Prefix unary.LogicalNot
    else if same s (codes ":LEN:") then Prefix unary.Length
    else if same s (codes ":CHR:") then Prefix unary.Character
    else if same s (codes ":STR:") then Prefix unary.String
    else if same s (codes ":DEF:") then OfName unary.Defined
    else worded_infix s

-- a relation without letters
abbrev pub relation_part : List ℕ → Part
relation_part s =
    if same s (codes "=") then Infix binary.Equal
    else if same s (codes "==") then Infix binary.Equal
    else if same s (codes "<>") then Infix binary.NotEqual
    else if same s (codes "/=") then Infix binary.NotEqual
    else if same s (codes "<") then Infix binary.Less
    else if same s (codes "<=") then Infix binary.LessEqual
    else if same s (codes ">") then Infix binary.Greater
    else if same s (codes ">=") then Infix binary.GreaterEqual
    else Other

-- an operator or a sign without letters
abbrev pub plain_part : List ℕ → Part
plain_part s =
    if same s (codes "(") then Open
    else if same s (codes ")") then Close
    else if same s (codes ".") then Operand item.Here
    else if same s (codes "@") then Operand item.Map
    else if same s (codes "+") then Sum unary.Plus binary.Add
    else if same s (codes "-") then Sum unary.Minus binary.Subtract
    else if same s (codes "?") then OfName unary.Size
    else if same s (codes "*") then Infix binary.Multiply
    else if same s (codes "/") then Infix binary.Divide
    else relation_part s

-- a sign
abbrev pub sign_part : List ℕ → Part
sign_part [] = Other
sign_part (c ∷ cs) = if c == 58 then worded_part (c ∷ cs) else plain_part (c ∷ cs)

-- a slice of a kind of token
abbrev pub part_of_kind : TokenKind → List ℕ → Part
part_of_kind kind.Name s = Operand (item.Name s)
part_of_kind kind.Barred s = Operand (item.Name (take (length s - 2) (drop 1 s)))
part_of_kind kind.Number s = Operand (number_item (number_value s))
part_of_kind kind.Quoted s = Operand (item.Constant (Words (undoubled (drop 1 s))))
part_of_kind kind.Character s = Operand (item.Constant (Number (character_value s)))
part_of_kind kind.Braced s = braced_part s
part_of_kind kind.Local s = Operand (item.Local s)
part_of_kind kind.Sign s = sign_part s

-- a token of a line
abbrev pub part_of : List ℕ → Token → Part
part_of text t = part_of_kind t.kind (piece text t)
