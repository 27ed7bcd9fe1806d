-- What the code has of names. This project's.
use Rattle.std.specs.Prelude.{◌≡◌, ℕ, List, ◌++◌, Bool, true, false, Option, Some, None}
use Rattle.expand_model.specs.States.{State, found, locals_of, arguments_of}
use Rattle.asm_variables.specs.Maps.{value_named}
use Rattle.asm_variables.specs.declared.variables.Tables.{Tables}

-- the tables hold what a state has
pub record HasTables (t : Tables) (s : State) : Type 0 where
  pub globals : (q : List ℕ) → value_named t.globals q ≡ found q s.globals
  pub locals : (q : List ℕ) → value_named t.locals q ≡ found q (locals_of s.scope)
  pub arguments : (q : List ℕ) → value_named t.arguments q ≡ found q (arguments_of s.scope)

-- a text is appended where there is one
abbrev pub Appends : Option (List ℕ) → Bool → List ℕ → List ℕ → Type 0
Appends None known old new = known ≡ false
Appends (Some text) known old new = (known ≡ true) × (new ≡ old ++ text)
