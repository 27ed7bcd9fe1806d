-- The first value that is given, and what comes where none is. This project's.
use Rattle.std.specs.Prelude.{List, [], ◌∷◌, Option, Some, None, Result, Ok, Err}
use Rattle.std.specs.Option.{option_or}

-- what f gives of the first item of which it gives something
abbrev pub first_given : {A B : Type 0} → (A → Option B) → List A → Option B
first_given f [] = None
first_given f (x ∷ xs) = option_or (f x) (first_given f xs)

-- what is refused, or else x
abbrev pub refused_or : {A B : Type 0} → Option B → A → Result A B
refused_or None x = Ok x
refused_or (Some r) x = Err r
