-- What the code has of a state. This project's.
use Rattle.std.specs.Prelude.{◌≡◌, ℕ, List, ◌∷◌, ◌&&◌, if◌then◌else◌, Option, Some, None}
use Rattle.std.specs.Option.{is_some}
use Rattle.std.specs.List.{list_any}
use Rattle.asm_model.specs.Forms.{same}
use Rattle.asm_model.specs.declared.values.Value.{Value}
use Rattle.expand_model.specs.declared.macros.Macro.{Macro}
use Rattle.expand_model.specs.Prototypes.{macro_named}
use Rattle.expand_model.specs.States.{State, found, locals_of, arguments_of, with_scope}
use Rattle.expand_model.specs.States as model
use Rattle.asm_variables.specs.LineNames.{has_noted}
use Rattle.asm_variables.specs.Maps.{Map, value_named}
use Rattle.asm_variables.specs.declared.expansion.Definition.{Definition}
use Rattle.asm_variables.specs.declared.expansion.Expansion.{Expansion}
use Rattle.asm_variables.specs.declared.expansion.Scope.{Scope}

abbrev pub macro_of : Definition → Macro
macro_of d = record { prototype = d.prototype.value; body = d.body.value }

abbrev pub maybe_macro : Option Definition → Option Macro
maybe_macro None = None
maybe_macro (Some d) = Some (macro_of d)

-- what a call has of its own
pub record HasScope (c : Scope) (s : Option model.Scope) : Type 0 where
  pub called : c.in_call ≡ is_some s
  pub locals : (q : List ℕ) → value_named c.locals q ≡ found q (locals_of s)
  pub arguments : (q : List ℕ) → value_named c.arguments q ≡ found q (arguments_of s)

pub record Represents (c : Expansion) (s : State) : Type 0 where
  pub visits : c.visits ≡ s.visits
  pub globals : (q : List ℕ) → value_named c.tables.globals q ≡ found q s.globals
  pub locals : (q : List ℕ) → value_named c.tables.locals q ≡ found q (locals_of s.scope)
  pub arguments : (q : List ℕ) → value_named c.tables.arguments q ≡ found q (arguments_of s.scope)
  pub called : c.in_call ≡ is_some s.scope
  pub macros : (q : List ℕ) → maybe_macro (value_named c.macros q) ≡ macro_named q s.macros
  pub flats : c.flats.items ≡ s.flats
  pub numbers : (q : List ℕ) → value_named c.numbers q ≡ found q s.numbers
  pub labels : (q : List ℕ) → has_noted c.labels q ≡ list_any (λ name. same name q) s.labels
  pub thumb : c.thumb ≡ s.thumb

-- what a state becomes
abbrev pub Becomes : Expansion → Expansion → (State → State) → Type 0
Becomes old new f = (s : State) → Represents old s → Represents new (f s)

-- a name that has a value has this one
abbrev pub Replaces : List ℕ → Value → Map Value → Map Value → Type 0
Replaces name v old new =
    (q : List ℕ)
    → value_named new q
    ≡ (if same name q && is_some (value_named old name) then Some v else value_named old q)

-- another call is open
abbrev pub Enters : Expansion → Expansion → Scope → Scope → Type 0
Enters old new inner outer =
    (s : State) (scope : Option model.Scope) → Represents old s → HasScope inner scope
    → Represents new (with_scope scope s) × HasScope outer s.scope

abbrev pub with_macro : Macro → State → State
with_macro m s = record s { macros = m ∷ s.macros }
