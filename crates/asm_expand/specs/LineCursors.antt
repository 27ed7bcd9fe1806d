-- Places in lines. This project's.
use Rattle.std.specs.Prelude.{List, drop}
use Rattle.asm_model.specs.declared.lines.Line.{Line}
use Rattle.asm_expand.specs.declared.line_cursors.LineCursor.{LineCursor}

-- the lines from a place on
abbrev pub cursor_lines : LineCursor → List Line
cursor_lines p = drop p.at p.lines.value
