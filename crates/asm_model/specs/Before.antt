-- What the statements before another say of it: its state and its area. Statements are listed with the nearest first; an
-- AREA stands in its own area. A source begins in ARM state. SDT 2.50 Reference Guide, chapter on the assembler. This
-- project's: CODE16 and CODE32 count from the next line on.
use Rattle.std.specs.Prelude.{ℕ, ◌+◌, List, [], ◌∷◌, ◌++◌, ◌&&◌, Bool, true, false, if◌then◌else◌, Option, Some, None}
use Rattle.std.specs.List.{list_any}
use Rattle.asm_model.specs.declared.directives.Contents.{Contents}
use Rattle.asm_model.specs.declared.directives.Contents.TheVariants as contents
use Rattle.asm_model.specs.declared.directives.DirectiveLine.TheVariants as line
use Rattle.asm_model.specs.declared.statements.Statement.{Statement}
use Rattle.asm_model.specs.declared.statements.What.{What}
use Rattle.asm_model.specs.declared.statements.What.TheVariants as what
use Rattle.asm_model.specs.Forms.{same}

-- ---- the state

abbrev pub state_behind : What → Bool → Bool
state_behind (what.Directive line.Code16) thumb = true
state_behind (what.Directive line.Code32) thumb = false
state_behind _ thumb = thumb

-- whether a statement behind these stands in Thumb state
abbrev pub thumb_behind : List Statement → Bool
thumb_behind [] = false
thumb_behind (s ∷ before) = state_behind s.what (thumb_behind before)

-- ---- areas

-- the name that an AREA gives
abbrev pub area_named : What → Option (List ℕ)
area_named (what.Directive (line.Area name attributes)) = Some name
area_named _ = None

abbrev pub with_name : Option (List ℕ) → List (List ℕ) → List (List ℕ)
with_name None names = names
with_name (Some n) names = if list_any (same n) names then names else names ++ n ∷ []

-- the names of the areas, in order of their first AREA
abbrev pub areas_behind : List Statement → List (List ℕ)
areas_behind [] = []
areas_behind (s ∷ before) = with_name (area_named s.what) (areas_behind before)

-- the place of a name in a list
abbrev pub place_of : List ℕ → List (List ℕ) → ℕ
place_of n [] = 0
place_of n (m ∷ ms) = if same n m then 0 else place_of n ms + 1

abbrev pub area_from : Option (List ℕ) → List (List ℕ) → Option ℕ → Option ℕ
area_from None areas area = area
area_from (Some n) areas area = Some (place_of n areas)

-- the number of the area that the last of these statements stands in
abbrev pub area_behind : List Statement → Option ℕ
area_behind [] = None
area_behind (s ∷ before) = area_from (area_named s.what) (areas_behind (s ∷ before)) (area_behind before)

abbrev pub is_code : Contents → Bool
is_code contents.Code = true
is_code _ = false

abbrev pub code_from : What → Bool → Bool
code_from (what.Directive (line.Area name attributes)) code = is_code attributes.contents
code_from _ code = code

-- whether the last of these statements stands in a code area
abbrev pub code_behind : List Statement → Bool
code_behind [] = false
code_behind (s ∷ before) = code_from s.what (code_behind before)

-- whether a label of a statement behind these is one of Thumb code
abbrev pub is_thumb_label : Statement → List Statement → Bool
is_thumb_label s before = thumb_behind before && code_behind (s ∷ before)
