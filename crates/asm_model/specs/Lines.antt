-- The lines of a source. A line ends with LF or CR LF; a CR that no LF follows is a byte of its line, and a
-- last line needs no end. ARM SDT 2.50 Reference Guide, chapter on the assembler; the limits are this project's.
use Rattle.std.specs.Prelude.{ℕ, ◌+◌, List, [], ◌∷◌, length, nat_lt, if◌then◌else◌, ◌||◌, Option, None, Some, Result, Ok, Err}
use Rattle.std.specs.Str.Lines.{lines}
use Rattle.sdt_fault.specs.declared.answer.Fault.{Fault}
use Rattle.sdt_fault.specs.declared.answer.Fault.TheVariants.{Refused}
use Rattle.sdt_fault.specs.declared.refusal.Refusal.TheVariants.{BadLine}
use Rattle.sdt_fault.specs.declared.kinds.LineKind.TheVariants.{TooMany}
use Rattle.asm_model.specs.declared.lines.Line.{Line}
use Rattle.asm_model.specs.Limits.{source_lines, line_bytes}

-- the texts as lines of the source, numbered from n on
abbrev pub numbered : List ℕ → ℕ → List (List ℕ) → List Line
numbered source n [] = []
numbered source n (text ∷ texts) = record { source = source; number = n; text = text } ∷ numbered source (n + 1) texts

-- the number of the first line that is too long, or beyond the limit on lines
abbrev pub first_beyond : ℕ → List (List ℕ) → Option ℕ
first_beyond n [] = None
first_beyond n (text ∷ texts) =
    if nat_lt source_lines n || nat_lt line_bytes (length text) then Some n else first_beyond (n + 1) texts

-- the lines of a source, or the fault of the first line beyond a limit
abbrev pub split : List ℕ → List ℕ → Result (List Line) Fault
split source text = judged (first_beyond 1 (lines text))
  where
    judged : Option ℕ → Result (List Line) Fault
    judged None = Ok (numbered source 1 (lines text))
    judged (Some n) = Err (Refused (BadLine source n TooMany))
