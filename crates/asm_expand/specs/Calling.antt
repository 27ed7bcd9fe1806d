-- Steps of the code of calls. This project's.
use Rattle.std.specs.Prelude.{◌≡◌, ℕ, List, [], ◌++◌, if◌then◌else◌, Option, Some, None}
use Rattle.asm_model.specs.Forms.{same}
use Rattle.expand_model.specs.declared.macros.Parameter.{Parameter}
use Rattle.expand_model.specs.declared.macros.Prototype.{Prototype}
use Rattle.expand_model.specs.Prototypes.{argument_for, argument_rows, label_rows}
use Rattle.expand_model.specs.States.{Table, found}
use Rattle.asm_variables.specs.Maps.{Map, value_named}
use Rattle.asm_variables.specs.declared.expansion.Scope.{Scope}
use Rattle.asm_variables.specs.Expanding.{HasScope}

abbrev pub Texts : Type 0
Texts = Map (List ℕ)

abbrev pub HasRows : Texts → Table (List ℕ) → Type 0
HasRows m rows = (q : List ℕ) → value_named m q ≡ found q rows

-- the text for which a parameter stands
abbrev pub argument_text : Parameter → Option (List ℕ) → List ℕ
argument_text p None = []
argument_text p (Some text) = argument_for p text

abbrev pub PutsRow : List ℕ → List ℕ → Texts → Texts → Type 0
PutsRow name text old new =
    (q : List ℕ) → value_named new q ≡ (if same name q then Some text else value_named old q)

abbrev pub PutsLabel : Option (List ℕ) → List ℕ → Texts → Texts → Type 0
PutsLabel parameter label old new =
    (rows : Table (List ℕ)) → HasRows old rows → HasRows new (label_rows parameter label ++ rows)

abbrev pub IsScopeOf : Prototype → List ℕ → List (List ℕ) → Scope → Type 0
IsScopeOf p label texts c =
    HasScope c (Some (record { arguments = label_rows p.label label ++ argument_rows p.parameters texts; locals = [] }))
