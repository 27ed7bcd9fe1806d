-- What a line sees of names. It knows the names of labels, imports, registers and map fields that the lines before it
-- define, and its own but for the size of its statement; a name for an expression is known behind its line with the value
-- that its line knew, or with what is wrong with it there. A name that the source defines and the line doesn't know means
-- something later: it is Forward. This project's.
use Rattle.std.specs.Prelude.{◌≡◌, ℕ, List, [], ◌∷◌, ◌++◌, Bool, true, false, if◌then◌else◌, Option, Some, None, Result, Ok, Err}
use Rattle.sdt_fault.specs.declared.kinds.LineKind.{LineKind}
use Rattle.sdt_fault.specs.declared.kinds.LineKind.TheVariants.{UnknownWord, Forward}
use Rattle.asm_model.specs.declared.exprs.ExprItem.{ExprItem}
use Rattle.asm_model.specs.declared.exprs.ExprItem.TheVariants as item
use Rattle.asm_model.specs.declared.exprs.UnaryOp.TheVariants as unary
use Rattle.asm_model.specs.declared.values.Value.{Value}
use Rattle.asm_model.specs.declared.values.Value.TheVariants.{Number, Place}
use Rattle.asm_model.specs.declared.names.LaidName.{LaidName}
use Rattle.asm_model.specs.declared.names.Names.{Names}
use Rattle.asm_model.specs.Grammar.{Tree, Leaf, Before, Between}
use Rattle.asm_model.specs.Meaning.{named_in, entry_value, meaning}

-- what a line defines: no name; a name with its entry; or a name for an expression, with the entry that a result makes
pub data Definition : Type 0 where
  Nameless : Definition
  Named : LaidName → Definition
  Equated : (Result Value LineKind → LaidName) → Tree → Definition

-- a line of a source, as its expressions see it
pub record SourceLine : Type 0 where
  -- where its statement stands, the storage map and the state
  pub area : Option ℕ
  pub offset : ℕ
  pub map : ℕ
  pub thumb : Bool
  pub definition : Definition

-- what an expression of the line is evaluated with, where names mean this
abbrev pub with_names : SourceLine → List LaidName → Names
with_names l list = record { list = list; area = l.area; offset = l.offset; map = l.map; thumb = l.thumb }

-- the name that the line knows itself
abbrev pub own_names : Definition → List LaidName
own_names Nameless = []
own_names (Named n) = n ∷ []
own_names (Equated make t) = []

-- what a line sees, where the lines before it know these names, and the source has all these, which mean something later
abbrev pub names_at : List LaidName → List LaidName → SourceLine → Names
names_at all seen l = with_names l (seen ++ own_names l.definition ++ all)

-- the names that a line which sees these adds to those that are known
abbrev pub added_names : Names → Definition → List LaidName
added_names names Nameless = []
added_names names (Named n) = n ∷ []
added_names names (Equated make t) = make (meaning names t) ∷ []

-- the names that are known behind lines, the nearest first
abbrev pub seen_behind : List LaidName → List SourceLine → List LaidName
seen_behind all [] = []
seen_behind all (l ∷ ls) = seen_behind all ls ++ added_names (names_at all (seen_behind all ls) l) l.definition

-- the value of an expression at a line, where these lines stand before it, the nearest first
abbrev pub known_value : List LaidName → List SourceLine → SourceLine → Tree → Result Value LineKind
known_value all before l t = meaning (names_at all (seen_behind all before) l) t

-- ---- literals

abbrev pub is_value : Result Value LineKind → Bool
is_value (Ok v) = true
is_value (Err k) = false

abbrev pub has_value : Option LaidName → Bool
has_value None = false
has_value (Some n) = is_value (entry_value n)

-- a name without a value stays a name
abbrev pub kept_name : Names → ExprItem → ExprItem
kept_name names (item.Name name) =
    if has_value (named_in name names.list) then item.Name name else item.Constant (Place name 0)
kept_name names i = i

abbrev pub kept_names : Names → Tree → Tree
kept_names names (Leaf i) = Leaf (kept_name names i)
kept_names names (Before unary.Size (Leaf i)) = Before unary.Size (Leaf i)
kept_names names (Before unary.Defined (Leaf i)) = Before unary.Defined (Leaf i)
kept_names names (Before op t) = Before op (kept_names names t)
kept_names names (Between op t u) = Between op (kept_names names t) (kept_names names u)

-- a number that is known, or else one name plus a number; else Forward, or UnknownWord where, its names kept, it has what
-- nothing defines
abbrev pub literal_or : Result Value LineKind → Result Value LineKind → Result Value LineKind
literal_or (Ok (Number n)) other = Ok (Number n)
literal_or x (Ok (Place name n)) = Ok (Place name n)
literal_or x (Err UnknownWord) = Err UnknownWord
literal_or x other = Err Forward

-- the literal of an expression by what its line sees
abbrev pub literal_at : Names → Tree → Result Value LineKind
literal_at names t = literal_or (meaning names t) (meaning names (kept_names names t))

-- each of these entries is the first with its name
abbrev pub HoldsEach : List LaidName → List LaidName → Type 0
HoldsEach list [] = Unit {0}
HoldsEach list (n ∷ ns) = (named_in n.name list ≡ Some n) × HoldsEach list ns
