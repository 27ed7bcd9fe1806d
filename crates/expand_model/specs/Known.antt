-- The expressions of IF, WHILE, SETA, SETL and SETS. They know the variables and each name that an EQU of an earlier
-- flat line made a number by what was known there, without variables; a label, this place, the storage map and every
-- other name is Forward, a number that is too large is Constant, and a name beyond the limit is TooMany. `:DEF:` is true
-- of a variable and of what stands in the label field of an earlier flat line. This project's.
use Rattle.std.specs.Prelude.{◌≡◌, ℕ, List, [], ◌∷◌, ◌++◌, map, Bool, false, if◌then◌else◌, Option, Some, None, Result, Ok, Err}
use Rattle.std.specs.List.{list_any}
use Rattle.std.specs.Option.{is_some}
use Rattle.sdt_fault.specs.declared.kinds.LineKind.{LineKind}
use Rattle.sdt_fault.specs.declared.kinds.LineKind.TheVariants.{Syntax, Constant, Forward, TooMany}
use Rattle.asm_model.specs.declared.exprs.Expr.{Expr}
use Rattle.asm_model.specs.declared.exprs.ExprItem.{ExprItem}
use Rattle.asm_model.specs.declared.exprs.ExprItem.TheVariants as item
use Rattle.asm_model.specs.declared.exprs.UnaryOp.{UnaryOp}
use Rattle.asm_model.specs.declared.exprs.UnaryOp.TheVariants as unary
use Rattle.asm_model.specs.declared.names.LaidName.{LaidName}
use Rattle.asm_model.specs.declared.names.Names.{Names}
use Rattle.asm_model.specs.declared.tokens.Token.{Token}
use Rattle.asm_model.specs.declared.values.Value.{Value}
use Rattle.asm_model.specs.declared.values.Value.TheVariants.{Number}
use Rattle.asm_model.specs.Entries.{valued_entry}
use Rattle.asm_model.specs.Grammar.{Tree, Leaf, Before, Between, ParsesTokens}
use Rattle.asm_model.specs.Kinds.{told_kind, kind_if}
use Rattle.asm_model.specs.Meaning.{named_in, meaning}
use Rattle.asm_model.specs.Says.{sentence}
use Rattle.asm_model.specs.Tokens.{AreTokens}
use Rattle.asm_model.specs.Trees.{tree_of}
use Rattle.expand_model.specs.Prototypes.{is_long}
use Rattle.expand_model.specs.States.{Table, State, locals_of}

-- what the tokens behind a line's operation read as: an expression, or the kind of its fault
abbrev pub Operand : Type 0
Operand = Result Expr LineKind

abbrev pub FromTokens : List ℕ → Option (List Token) → Operand → Type 0
FromTokens text None x = x ≡ Err Syntax
FromTokens text (Some ts) x = ParsesTokens text (sentence ts).behind x

abbrev pub ReadsExpression : List ℕ → Operand → Type 0
ReadsExpression text x = (ts : Option (List Token)) × AreTokens text ts × FromTokens text ts x

-- a name beyond the limit
abbrev pub is_long_item : ExprItem → Bool
is_long_item (item.Name name) = is_long name
is_long_item _ = false

abbrev pub long_kinds : Operand → List LineKind
long_kinds (Ok e) = kind_if (list_any is_long_item e.items) TooMany
long_kinds (Err k) = []

-- ---- names

abbrev pub value_entries : Table Value → List LaidName
value_entries rows = map (λ row. valued_entry row.0 row.1 false) rows

-- the names of variables, those that are local first
abbrev pub variable_entries : State → List LaidName
variable_entries s = value_entries (locals_of s.scope) ++ value_entries s.globals

-- the names that an EQU made numbers
abbrev pub number_entries : State → List LaidName
number_entries s = map (λ row. valued_entry row.0 (Number row.1) false) s.numbers

-- names that have no value here
abbrev pub label_entries : State → List LaidName
label_entries s = map (λ name. valued_entry name (Number 0) false) s.labels

-- the faults of a name that stands for its value, and of an item
abbrev pub name_kinds : List LaidName → List ℕ → List LineKind
name_kinds values name = if is_some (named_in name values) then [] else Forward ∷ []

abbrev pub item_kinds : List LaidName → ExprItem → List LineKind
item_kinds values (item.Name name) = name_kinds values name
item_kinds values (item.Local name) = Forward ∷ []
item_kinds values item.TooLarge = Constant ∷ []
item_kinds values item.Here = Forward ∷ []
item_kinds values item.Map = Forward ∷ []
item_kinds values _ = []

abbrev pub asked_kinds : List LaidName → UnaryOp → ExprItem → List LineKind
asked_kinds values unary.Defined (item.Name name) = []
asked_kinds values op i = item_kinds values i

-- the faults of the items in an expression
abbrev pub tree_kinds : List LaidName → Tree → List LineKind
tree_kinds values (Leaf i) = item_kinds values i
tree_kinds values (Before op (Leaf i)) = asked_kinds values op i
tree_kinds values (Before op t) = tree_kinds values t
tree_kinds values (Between op t u) = tree_kinds values t ++ tree_kinds values u

-- ---- values

abbrev pub names_with : State → List LaidName → Names
names_with s list = record { list = list; area = None; offset = 0; map = 0; thumb = s.thumb }

-- the kinds of its items come before all others that an expression has
abbrev pub unless_told : Option LineKind → Result Value LineKind → Result Value LineKind
unless_told None r = r
unless_told (Some k) r = Err k

-- the value of an expression with these names
abbrev pub tree_value : State → List LaidName → Tree → Result Value LineKind
tree_value s values t = unless_told (told_kind (tree_kinds values t)) (meaning (names_with s (values ++ label_entries s)) t)

abbrev pub maybe_value : State → List LaidName → Option Tree → Result Value LineKind
maybe_value s values None = Err Syntax
maybe_value s values (Some t) = tree_value s values t

abbrev pub value_with : State → List LaidName → Operand → Result Value LineKind
value_with s values (Ok e) = maybe_value s values (tree_of e)
value_with s values (Err k) = Err k

-- the value of an expression of IF, WHILE, SETA, SETL or SETS
unfoldable pub value_of : State → Operand → Result Value LineKind
value_of s x = value_with s (variable_entries s ++ number_entries s) x

-- the number that an EQU's expression is, where it is known without the layout
abbrev pub as_number : Result Value LineKind → Option ℕ
as_number (Ok (Number n)) = Some n
as_number _ = None

unfoldable pub known_number : State → Operand → Option ℕ
known_number s x = as_number (value_with s (number_entries s) x)
