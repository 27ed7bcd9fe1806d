-- What expansion has at a line: variables, macros, the flat lines so far, and what these say to conditions. ARM SDT
-- 2.50 Reference Guide, chapter on the assembler; how far lines may be visited is this project's.
use Rattle.std.specs.Prelude.{ℕ, ◌-◌, List, [], ◌∷◌, Bool, false, if◌then◌else◌, Option, Some, None}
use Rattle.std.specs.Option.{is_some}
use Rattle.asm_model.specs.declared.lines.Flat.{Flat}
use Rattle.asm_model.specs.declared.values.Value.{Value}
use Rattle.asm_model.specs.declared.values.Value.TheVariants.{Number, Truth, Words, Place}
use Rattle.expand_model.specs.declared.macros.Macro.{Macro}
use Rattle.asm_model.specs.Directives.{or_else}
use Rattle.asm_model.specs.Forms.{same}
use Rattle.sdt_fault.specs.Digits.{hexadecimal_places}
use Rattle.std.specs.Prelude.{codes}

-- names with what they stand for
abbrev pub Table : Type 0 → Type 0
Table A = List (List ℕ × A)

-- what the first row with a name has
abbrev pub found : {A : Type 0} → List ℕ → Table A → Option A
found name [] = None
found name (row ∷ rows) = if same row.0 name then Some row.1 else found name rows

-- the first row with a name with another value
abbrev pub with_row : {A : Type 0} → List ℕ → A → Table A → Table A
with_row name a [] = []
with_row name a (row ∷ rows) = if same row.0 name then (row.0, a) ∷ rows else row ∷ with_row name a rows

-- what a call of a macro has of its own
pub record Scope : Type 0 where
  pub arguments : Table (List ℕ)
  pub locals : Table Value

pub record State : Type 0 where
  -- how many lines may still be visited
  pub visits : ℕ
  pub globals : Table Value
  -- that of the last call that is open
  pub scope : Option Scope
  pub macros : List Macro
  pub flats : List Flat
  -- the names that an EQU made a number
  pub numbers : Table ℕ
  -- the names that stand in label fields of flat lines
  pub labels : List (List ℕ)
  pub thumb : Bool

-- before the first line
abbrev pub started : ℕ → State
started visits =
    record { visits = visits; globals = []; scope = None; macros = []; flats = []; numbers = []; labels = []; thumb = false }

abbrev pub visited : State → State
visited s = record s { visits = s.visits - 1 }

abbrev pub with_scope : Option Scope → State → State
with_scope scope s = record s { scope = scope }

-- ---- variables

abbrev pub locals_of : Option Scope → Table Value
locals_of None = []
locals_of (Some c) = c.locals

abbrev pub arguments_of : Option Scope → Table (List ℕ)
arguments_of None = []
arguments_of (Some c) = c.arguments

-- a local hides a global
abbrev pub variable : State → List ℕ → Option Value
variable s name = or_else (found name (locals_of s.scope)) (found name s.globals)

abbrev pub declared_global : List ℕ → Value → State → State
declared_global name v s = record s { globals = (name, v) ∷ s.globals }

abbrev pub in_locals : (Table Value → Table Value) → Option Scope → Option Scope
in_locals f None = None
in_locals f (Some c) = Some (record c { locals = f c.locals })

abbrev pub declared_local : List ℕ → Value → State → State
declared_local name v s = with_scope (in_locals (λ rows. (name, v) ∷ rows) s.scope) s

abbrev pub with_variable : List ℕ → Value → State → State
with_variable name v s =
    if is_some (found name (locals_of s.scope)) then with_scope (in_locals (with_row name v) s.scope) s
    else record s { globals = with_row name v s.globals }

-- ---- texts

-- a number in eight hexadecimal digits
abbrev pub text_of : Value → List ℕ
text_of (Number n) = hexadecimal_places 8 n
text_of (Truth b) = if b then codes "T" else codes "F"
text_of (Words w) = w
text_of (Place name n) = []

abbrev pub text_in : Option Value → Option (List ℕ)
text_in None = None
text_in (Some v) = Some (text_of v)

-- the text for which `$name` stands: a parameter's before a variable's
abbrev pub text_named : State → List ℕ → Option (List ℕ)
text_named s name = or_else (found name (arguments_of s.scope)) (text_in (variable s name))
