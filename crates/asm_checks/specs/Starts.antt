-- What is kept of a source's areas by their lines: names and attributes. Lines are listed with the nearest first. SDT 2.50
-- Reference Guide, chapter on the assembler, and ARM Object Format.
use Rattle.std.specs.Prelude.{◌≡◌, ℕ, ◌≤◌, ◌==◌, Bool, false, if◌then◌else◌}
use Rattle.std.specs.Prelude.{List, [], ◌∷◌, ◌++◌, map, length, slice_get, Option, Some, None, Result, Ok, Err}
use Rattle.sdt_fault.specs.declared.kinds.LineKind.{LineKind}
use Rattle.asm_model.specs.declared.directives.AreaAttributes.{AreaAttributes}
use Rattle.asm_model.specs.declared.directives.DirectiveLine.TheVariants as line
use Rattle.asm_model.specs.declared.statements.Statement.{Statement}
use Rattle.asm_model.specs.declared.statements.What.{What}
use Rattle.asm_model.specs.declared.statements.What.TheVariants as what
use Rattle.asm_model.specs.Before.{areas_behind, area_behind}
use Rattle.asm_model.specs.Laid.{LaidLine, statements_of}
use Rattle.asm_model.specs.LayoutKinds.{exponent, is_thumb_area, in_thumb_area}
use Rattle.source_model.specs.Objects.{attributes_word, or_two, attributes_of}
use Rattle.asm_checks.specs.declared.starts.AreaStart.{AreaStart}

-- ---- what is kept

abbrev pub IsStart : List Statement → List LaidLine → ℕ → Option AreaStart → Type 0
IsStart all before area None = attributes_of area (is_thumb_area area all) before ≡ None
IsStart all before area (Some s) = attributes_of area (is_thumb_area area all) before ≡ Some s.attributes

-- the areas of lines, and no others, where the source has these statements
pub record AreStarts (all : List Statement) (before : List LaidLine) (starts : List AreaStart) : Type 0 where
  pub names : map (λ (s : AreaStart). s.name) starts ≡ areas_behind (statements_of before)
  pub each : (area : ℕ) → IsStart all before area (slice_get starts area)

-- ---- a line more

abbrev pub IsSmall : Result ℕ LineKind → Type 0
IsSmall (Ok n) = n ≤ 16
IsSmall (Err k) = Unit {0}

-- the exponent of an AREA's alignment, which is no fault
abbrev pub IsAligned : What → Result ℕ LineKind → LaidLine → Type 0
IsAligned (what.Directive (line.Area name a)) x l = (x ≡ exponent l.seen a.alignments) × IsSmall x
IsAligned _ x l = Unit {0}

-- what is known of a line behind others
pub record IsLineOf (all : List Statement) (w : What) (area : Option ℕ) (thumb_area : Bool) (x : Result ℕ LineKind) (l : LaidLine)
    (before : List LaidLine) : Type 0 where
  pub said : l.statement.what ≡ w
  pub stands : l.area ≡ area
  pub counted : l.area ≡ area_behind (l.statement ∷ statements_of before)
  pub state : thumb_area ≡ in_thumb_area area all
  pub aligned : IsAligned w x l

abbrev pub begun : List ℕ → AreaAttributes → Bool → Result ℕ LineKind → AreaStart
begun name a thumb x = record { name = name; attributes = attributes_word a (or_two x) thumb }

abbrev pub is_next : Option ℕ → ℕ → Bool
is_next None n = false
is_next (Some area) n = area == n

-- areas with one more, where an AREA names a new one
abbrev pub with_area : List ℕ → AreaAttributes → Option ℕ → Bool → Result ℕ LineKind → List AreaStart → List AreaStart
with_area name a area thumb x starts = if is_next area (length starts) then starts ++ begun name a thumb x ∷ [] else starts
