-- Placing areas: what becomes of values when each area has a base. Names and this place then are numbers, and an
-- expression of them is evaluated as any other. A value that has symbols is a number plus a symbol's address, and so
-- evaluating and then placing is evaluating what is placed. This project's.
-- The law says nothing of an expression that has no value with symbols, though it may have one when placed, as a
-- product with a label has.
use Rattle.std.specs.Prelude.{◌≡◌, ℕ, ◌+◌, ◌%◌, ◌^◌, List, [], ◌∷◌, map, Option, Some, None, Result, Ok, Err}
use Rattle.sdt_fault.specs.declared.kinds.LineKind.{LineKind}
use Rattle.asm_model.specs.declared.exprs.ExprItem.{ExprItem}
use Rattle.asm_model.specs.declared.exprs.ExprItem.TheVariants as item
use Rattle.asm_model.specs.declared.values.Value.{Value}
use Rattle.asm_model.specs.declared.values.Value.TheVariants.{Number, Truth, Words, Place}
use Rattle.asm_model.specs.declared.names.LaidName.{LaidName}
use Rattle.asm_model.specs.declared.names.Meaning.{Meaning}
use Rattle.asm_model.specs.declared.names.Meaning.TheVariants as means
use Rattle.asm_model.specs.declared.names.Names.{Names}
use Rattle.asm_model.specs.Grammar.{Tree, Leaf, Before, Between}
use Rattle.asm_model.specs.Meaning.{named_in, stands_at, entry_value, meaning}

-- a base for each area, and a value for each symbol that stands in none, as an imported one
pub record Placing : Type 0 where
  pub base : ℕ → ℕ
  pub imported : List ℕ → ℕ

-- the address of a symbol, by the area where it stands and its offset there
abbrev pub address_at : Placing → List ℕ → Option (ℕ × ℕ) → ℕ
address_at p s None = p.imported s
address_at p s (Some a) = p.base a.0 + a.1

-- the address of a symbol as a statement sees it; the empty symbol is the start of the statement's area
abbrev pub address_of : Placing → Names → List ℕ → ℕ
address_of p names s = address_at p s (stands_at names s)

-- a value of a statement, placed: only a place changes, into a number
abbrev pub placed_value : Placing → Names → Value → Value
placed_value p names (Place s n) = Number ((address_of p names s + n) % 2 ^ 32)
placed_value p names (Number n) = Number n
placed_value p names (Truth b) = Truth b
placed_value p names (Words w) = Words w

-- the same names, seen from an area
abbrev pub seen_from : Names → Option ℕ → Names
seen_from names area = record names { area = area }

-- what a name means, placed: a value that it has, and else what it means
abbrev pub placed_in : Placing → Names → List ℕ → Meaning → Meaning
placed_in p names name means.Label = means.Known (placed_value p names (Place name 0))
placed_in p names name means.Imported = means.Known (placed_value p names (Place name 0))
placed_in p names name means.Place = means.Known (placed_value p names (Place name 0))
placed_in p names name (means.Known v) = means.Known (placed_value p names v)
placed_in p names name m = m

-- an entry, placed: an empty symbol is the start of the entry's own area
abbrev pub placed_name : Placing → Names → LaidName → LaidName
placed_name p names n = record n { meaning = placed_in p (seen_from names n.area) n.name n.meaning }

abbrev pub placed_names : Placing → Names → Names
placed_names p names = record names { list = map (placed_name p names) names.list }

-- an item, placed: this place is a number
abbrev pub placed_item : Placing → Names → ExprItem → ExprItem
placed_item p names item.Here = item.Constant (placed_value p names (Place [] names.offset))
placed_item p names (item.Constant v) = item.Constant (placed_value p names v)
placed_item p names item.TooLarge = item.TooLarge
placed_item p names (item.Name s) = item.Name s
placed_item p names (item.Local s) = item.Local s
placed_item p names item.Map = item.Map
placed_item p names item.CodeSize = item.CodeSize
placed_item p names (item.Unary op) = item.Unary op
placed_item p names (item.Binary op) = item.Binary op

abbrev pub placed_tree : Placing → Names → Tree → Tree
placed_tree p names (Leaf i) = Leaf (placed_item p names i)
placed_tree p names (Before op t) = Before op (placed_tree p names t)
placed_tree p names (Between op t u) = Between op (placed_tree p names t) (placed_tree p names u)

-- the value of an expression of a statement whose names and constants are placed
abbrev pub placed_meaning : Placing → Names → Tree → Result Value LineKind
placed_meaning p names t = meaning (placed_names p names) (placed_tree p names t)

-- a value that is a place has a symbol
abbrev pub HasSymbol : Value → Type 0
HasSymbol (Place [] n) = ⊥
HasSymbol (Place (c ∷ cs) n) = Unit {0}
HasSymbol (Number n) = Unit {0}
HasSymbol (Truth b) = Unit {0}
HasSymbol (Words w) = Unit {0}

abbrev pub ResultHasSymbol : Result Value LineKind → Type 0
ResultHasSymbol (Ok v) = HasSymbol v
ResultHasSymbol (Err k) = Unit {0}

abbrev pub EntryHasSymbol : LaidName → Type 0
EntryHasSymbol n = ResultHasSymbol (entry_value n)

abbrev pub HaveSymbols : Names → Type 0
HaveSymbols names = (q : List ℕ) (n : LaidName) → named_in q names.list ≡ Some n → EntryHasSymbol n
