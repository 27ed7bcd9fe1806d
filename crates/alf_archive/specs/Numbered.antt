-- Items with their numbers. This project's.
use Rattle.std.specs.Prelude.{ℕ, ◌+◌, List, [], ◌∷◌, ◌++◌}

-- what each item gives by its number, counted from i on
abbrev pub numbered : {A B : Type 0} → (ℕ → A → List B) → ℕ → List A → List B
numbered f i [] = []
numbered f i (x ∷ xs) = f i x ++ numbered f (i + 1) xs
