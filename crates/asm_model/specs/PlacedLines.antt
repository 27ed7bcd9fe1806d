-- Statements whose names have characters, as those of all lines have. This project's.
use Rattle.std.specs.Prelude.{ℕ, List, [], ◌∷◌, Option, Some, None}
use Rattle.asm_model.specs.declared.statements.Statement.{Statement}
use Rattle.asm_model.specs.Labels.{Defined, Unnamed, Label, Equal, MapField, RegisterName, defined_by, imported_in}

-- a name has a character
abbrev pub IsName : List ℕ → Type 0
IsName [] = ⊥
IsName (c ∷ cs) = Unit {0}

abbrev pub HasName : Defined → Type 0
HasName Unnamed = Unit {0}
HasName (Label name) = IsName name
HasName (Equal name e) = IsName name
HasName (MapField name) = IsName name
HasName (RegisterName name r) = IsName name

abbrev pub HasImport : Option (List ℕ) → Type 0
HasImport None = Unit {0}
HasImport (Some name) = IsName name

-- statements whose names have characters, as all that lines say have
abbrev pub AllNamed : List Statement → Type 0
AllNamed [] = Unit {0}
AllNamed (s ∷ before) = HasName (defined_by s) × HasImport (imported_in s.what) × AllNamed before
