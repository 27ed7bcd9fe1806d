-- The areas of a layout, made of what begins and what ends each of them. This project's.
use Rattle.std.specs.Prelude.{◌≡◌, List}
use Rattle.std.specs.List.{AllZip}
use Rattle.asm_checks.specs.declared.starts.AreaStart.{AreaStart}
use Rattle.asm_offsets.specs.declared.extents.LaidPools.{LaidPools}
use Rattle.asm_layout.specs.declared.laid.LaidArea.{LaidArea}
use Rattle.asm_checks.specs.Starts.{AreStarts}
use Rattle.asm_model.specs.Laid.{LaidLine, statements_of, pieces_of}
use Rattle.asm_offsets.specs.Finished.{AreLaid}
use Rattle.asm_layout.specs.Layout.{AreAreas}

pub record IsMade (p : AreaStart × LaidPools) (a : LaidArea) : Type 0 where
  pub name : a.name ≡ p.0.name
  pub attributes : a.attributes ≡ p.0.attributes
  pub size : a.size ≡ p.1.size
  pub pools : a.pools ≡ p.1.pools

abbrev pub AreMade : List (AreaStart × LaidPools) → List LaidArea → Type 0
AreMade ps areas = AllZip IsMade ps areas

-- the areas are those of any lines whose areas begin and end so
abbrev pub AreAreasOf : List AreaStart → List LaidPools → List LaidArea → Type 0
AreAreasOf starts pools areas =
    (all : List LaidLine) → AreLaid (pieces_of all) pools → AreStarts (statements_of all) all starts → AreAreas all areas
