-- Steps of substitution. This project's.
use Rattle.std.specs.Prelude.{◌≡◌, ℕ, List, ◌∷◌, ◌++◌, take, Option, Some, None, Result, Ok, Err}
use Rattle.sdt_fault.specs.declared.kinds.LineKind.{LineKind}
use Rattle.sdt_fault.specs.declared.kinds.LineKind.TheVariants.{UnknownWord}
use Rattle.asm_model.specs.Readings.{mapped}
use Rattle.expand_model.specs.Standing.{Byte}
use Rattle.expand_model.specs.States.{State, text_named}
use Rattle.expand_model.specs.Substitution as model
use Rattle.asm_variables.specs.declared.variables.Tables.{Tables}
use Rattle.asm_variables.specs.Variables.{HasTables}

-- what a dollar becomes is appended, and so many bytes are taken
abbrev pub Becomes : Option (List ℕ) × ℕ → Option ℕ → List ℕ → List ℕ → Type 0
Becomes d None old new = d.0 ≡ None
Becomes d (Some n) old new = (text : List ℕ) × (d.0 ≡ Some text) × (d.1 ≡ n) × (new ≡ old ++ text)

-- what a byte becomes is appended, before what the bytes behind it become where so many of them are taken away
abbrev pub IsPut : Result (List ℕ) LineKind → (ℕ → Result (List ℕ) LineKind) → Option ℕ → List ℕ → List ℕ → Type 0
IsPut all behind None old new = all ≡ Err UnknownWord
IsPut all behind (Some n) old new = (text : List ℕ) × (new ≡ old ++ text) × (all ≡ mapped (λ r. text ++ r) (behind n))

-- what a name of so many bytes becomes is appended
abbrev pub PutsName : Tables → ℕ → List ℕ → List ℕ → List ℕ → Option ℕ → Type 0
PutsName t width rest old new taken =
    (s : State) → HasTables t s → Becomes (text_named s (take width rest), model.taken_width width rest) taken old new

-- what a dollar before these bytes becomes is appended
abbrev pub PutsDollar : Tables → List ℕ → List ℕ → List ℕ → Option ℕ → Type 0
PutsDollar t rest old new taken = (s : State) → HasTables t s → Becomes (model.dollar (text_named s) rest) taken old new

-- what a byte before these becomes is appended, where so many bytes are taken away
abbrev pub PutsByte : Tables → ℕ → Byte → List ℕ → List ℕ → List ℕ → Option ℕ → Type 0
PutsByte t dropped b rest old new taken =
    (s : State) (bs : List Byte) → HasTables t s → model.plain bs ≡ rest
    → IsPut (model.substituted_from (text_named s) dropped (b ∷ bs)) (λ n. model.substituted_from (text_named s) n bs) taken old new

-- one of a line's names stands for nothing
abbrev pub Fails : Tables → List ℕ → Type 0
Fails t text = (s : State) → HasTables t s → model.substituted s text ≡ Err UnknownWord

-- a line's text after substitution
abbrev pub Gives : Tables → List ℕ → List ℕ → Type 0
Gives t text out = (s : State) → HasTables t s → model.substituted s text ≡ Ok out

-- a text that substitution leaves as it is
abbrev pub Stays : List ℕ → Type 0
Stays text = (s : State) → model.substituted s text ≡ Ok text
