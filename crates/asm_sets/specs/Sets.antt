-- Names in sets and maps. This project's.
use Rattle.std.specs.Prelude.{◌≡◌, ℕ, List, Option, Some, None, if◌then◌else◌}
use Rattle.std.specs.List.{list_any}
use Rattle.std.specs.Map.{lookup}
use Rattle.asm_model.specs.Before.{place_of}
use Rattle.asm_model.specs.Forms.{same}

-- the same names are among both
abbrev pub HaveSame : List (List ℕ) → List (List ℕ) → Type 0
HaveSame xs ys = (q : List ℕ) → list_any (same q) xs ≡ list_any (same q) ys

-- the place of a name, where it is listed
abbrev pub number_among : List ℕ → List (List ℕ) → Option ℕ
number_among q names = if list_any (same q) names then Some (place_of q names) else None

-- the value of the first entry with the name
abbrev pub found_in : {V : Type 0} → List ℕ → List (List ℕ × V) → Option V
found_in q es = lookup (λ name. same name q) es
