-- The limits of the assembler's language. This project's.
use Rattle.std.specs.Prelude.{ℕ}

abbrev pub source_lines : ℕ
source_lines = 200000

-- of a line, before and after substitution
abbrev pub line_bytes : ℕ
line_bytes = 65536

abbrev pub name_bytes : ℕ
name_bytes = 255

-- of the value of a string
abbrev pub string_bytes : ℕ
string_bytes = 65536
