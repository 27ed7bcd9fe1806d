-- Steps of the code. This project's.
use Rattle.std.specs.Prelude.{◌≡◌, ℕ, ◌<◌, ◌+◌, List, [], ◌∷◌, ◌++◌, take, drop, length, reverse, Bool, true, false, Option, Some, None, Result, Ok, Err}
use Rattle.asm_expr.specs.declared.parser.Held.{Held}
use Rattle.asm_expr.specs.declared.parser.Parser.{Parser}
use Rattle.sdt_fault.specs.declared.NoMemory.{NoMemory}
use Rattle.asm_model.specs.declared.exprs.Expr.{Expr}
use Rattle.asm_model.specs.declared.exprs.Part.{Part}
use Rattle.asm_model.specs.declared.tokens.Token.{Token}
use Rattle.asm_model.specs.Operands.{operands_at}
use Rattle.asm_expr.specs.Parsing.{State, finished, is_tight, parsed, started}

-- the top, where it is tight, or the stack as it was
abbrev pub Pops : ℕ → List Held → Option Held → List Held → Type 0
Pops limit old None new = (new ≡ old) × Stays limit (reverse old)
  where
    Stays : ℕ → List Held → Type 0
    Stays limit [] = Unit {0}
    Stays limit (h ∷ hs) = is_tight limit h ≡ false
Pops limit old (Some top) new = (reverse old ≡ top ∷ reverse new) × (is_tight limit top ≡ true)

-- the two values on the top, or nothing where there are fewer
abbrev pub TakesTwo : {A : Type 0} → List A → Option (A × A) → List A → Type 0
TakesTwo old None new = (new ≡ []) × (length old < 2)
TakesTwo old (Some p) new = old ≡ new ++ p.0 ∷ p.1 ∷ []

-- what a parser has
abbrev pub state_of : Parser → State
state_of p = record { due = p.due; items = p.items.items; stack = reverse p.stack.items }

-- the state after one part more, or no state where the part can't stand there
abbrev pub Takes : Option State → Result Bool NoMemory → State → Type 0
Takes next (Ok true) new = next ≡ Some new
Takes next (Ok false) new = next ≡ None
Takes next (Err e) new = Unit {0}

-- the state after parts, or no state where one of them can't stand there
abbrev pub TakesAll : State → List Part → Result Bool NoMemory → State → Type 0
TakesAll old ps (Ok true) new = parsed (Some old) ps ≡ finished new
TakesAll old ps (Ok false) new = parsed (Some old) ps ≡ None
TakesAll old ps (Err e) new = Unit {0}

-- the items that parts spell; nothing where they spell none
abbrev pub IsRead : List Part → Option Expr → Type 0
IsRead ps None = parsed (Some started) ps ≡ None
IsRead ps (Some e) = parsed (Some started) ps ≡ Some e.items

-- the place of the first comma outside brackets, where there is one
abbrev pub IsComma : List ℕ → List Token → Option ℕ → Type 0
IsComma text ts None = operands_at text 0 ts ≡ ts ∷ []
IsComma text ts (Some i) = (i < length ts) × (operands_at text 0 ts ≡ take i ts ∷ operands_at text 0 (drop (i + 1) ts))

-- the first operand, and the tokens of the others
abbrev pub CutsOperands : List ℕ → List Token → List Token → Option (List Token) → Type 0
CutsOperands text ts first None = operands_at text 0 ts ≡ first ∷ []
CutsOperands text ts first (Some rest) =
    (operands_at text 0 ts ≡ first ∷ operands_at text 0 rest) × (length rest < length ts)
