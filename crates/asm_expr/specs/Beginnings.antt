-- First letters of words and names. This project's.
use Rattle.std.specs.Prelude.{◌≡◌, ◌==◌, ℕ, List, [], ◌∷◌, Bool, true}
use Rattle.std.specs.Char.{to_ascii_lowercase}

-- a word whose first letter, in lower case, is this one
abbrev pub BeginsWith : ℕ → List ℕ → Type 0
BeginsWith letter [] = ⊥
BeginsWith letter (c ∷ cs) = to_ascii_lowercase c ≡ letter

-- whether a word and a name have the same first letter, in any case; true where one of them has none
abbrev pub begins_alike : List ℕ → List ℕ → Bool
begins_alike [] name = true
begins_alike (c ∷ cs) [] = true
begins_alike (c ∷ cs) (d ∷ ds) = to_ascii_lowercase c == to_ascii_lowercase d
