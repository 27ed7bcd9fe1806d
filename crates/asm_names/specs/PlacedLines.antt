-- Lines of a source that is laid out, and what their expressions see in the end. SDT 2.50 Reference Guide, chapter on the
-- assembler; this project's.
use Rattle.std.specs.Prelude.{◌≡◌, List}
use Rattle.asm_model.specs.AtLine.{Nameless, SourceLine}
use Rattle.asm_model.specs.Before.{is_thumb_label}
use Rattle.asm_model.specs.Laid.{LaidLine, statements_of, map_behind}
use Rattle.asm_names.specs.declared.placed_lines.StatementPlace.{StatementPlace}
use Rattle.asm_names.specs.declared.placed_lines.PlacedLine.{PlacedLine}

-- the place is that of this line of a source, behind those before it
pub record IsPlace (x : StatementPlace) (l : LaidLine) (before : List LaidLine) : Type 0 where
  pub area : x.area ≡ l.area
  pub offset : x.offset ≡ l.offset
  pub thumb : x.thumb ≡ l.thumb
  pub thumb_label : x.thumb_label ≡ is_thumb_label l.statement (statements_of before)
  pub map : x.map ≡ map_behind before

-- the line is this one of a source, behind those before it
pub record IsLine (x : PlacedLine) (l : LaidLine) (before : List LaidLine) : Type 0 where
  pub statement : x.statement.now ≡ l.statement
  pub place : IsPlace x.place l before
  pub size : x.size ≡ l.size

-- the line as its expressions see it; what it defines they find among all names
abbrev pub line_of : PlacedLine → SourceLine
line_of x = record { area = x.place.area; offset = x.place.offset; map = x.place.map; thumb = x.place.thumb; definition = Nameless }

-- expressions of the line see the same as those of another
pub record Sees (x : PlacedLine) (f : SourceLine) : Type 0 where
  pub area : x.place.area ≡ f.area
  pub offset : x.place.offset ≡ f.offset
  pub map : x.place.map ≡ f.map
  pub thumb : x.place.thumb ≡ f.thumb
