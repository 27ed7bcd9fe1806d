-- The areas of a source with their numbers, in order of their first AREA, and where each ends so far. SDT 2.50 Reference
-- Guide, chapter on the assembler.
use Rattle.std.specs.Prelude.{◌≡◌, ℕ, List, [], ◌∷◌, length, if◌then◌else◌, Option, Some, None}
use Rattle.asm_model.specs.Forms.{same}
use Rattle.asm_expr.specs.Places.{number_in, one_later}
use Rattle.asm_model.specs.Before.{with_name, area_from}
use Rattle.asm_model.specs.Offsets.{Piece}
use Rattle.asm_offsets.specs.Running.{IsBehind, IsThere}
use Rattle.asm_laying.specs.declared.areas.Areas.{Areas}

-- the number of a name
abbrev pub number_of : List ℕ → List (List ℕ) → Option ℕ
number_of q [] = None
number_of q (m ∷ ms) = if same q m then Some 0 else one_later (number_of q ms)

-- the areas have these names; the last statement of these pieces stands in the current one
pub record AreNumbered (names : List (List ℕ)) (current : Option ℕ) (pieces : List Piece) (a : Areas) : Type 0 where
  pub numbers : (q : List ℕ) → number_in a.numbers q ≡ number_of q names
  pub count : a.count ≡ length names
  pub here : a.current ≡ current
  pub there : IsThere a.current a.ends
  pub each : length a.ends ≡ a.count
  pub ends : IsBehind pieces a.ends

-- the areas with the area that an AREA may name
abbrev pub Enters : Option (List ℕ) → Areas → Areas → Type 0
Enters n old new =
    (names : List (List ℕ)) (current : Option ℕ) (pieces : List Piece) → AreNumbered names current pieces old
    → AreNumbered (with_name n names) (area_from n (with_name n names) current) pieces new

-- statements were placed in the areas
pub record ArePlaceable (a : Areas) : Type 0 where
  pub pieces : List Piece
  pub there : IsThere a.current a.ends
  pub ends : IsBehind pieces a.ends
