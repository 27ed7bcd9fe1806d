-- Steps of the code of lines that stay. This project's.
use Rattle.std.specs.Prelude.{◌≡◌, ◌≤◌, ℕ, List, [], ◌∷◌, ◌++◌, ◌||◌, length, take, Bool, Option, Some, None}
use Rattle.std.specs.List.{list_any}
use Rattle.asm_model.specs.declared.lines.Flat.{Flat}
use Rattle.asm_model.specs.declared.lines.Line.{Line}
use Rattle.asm_model.specs.Directives.{or_else}
use Rattle.asm_model.specs.Forms.{same}
use Rattle.expand_model.specs.Known.{Operand}
use Rattle.expand_model.specs.States.{State, found}
use Rattle.expand_model.specs.Steps.{equ_number, flat_of, is_equ, number_rows}
use Rattle.expand_model.specs.Words.{listed}
use Rattle.asm_variables.specs.LineNames.{has_noted}
use Rattle.asm_variables.specs.Maps.{Map, value_named}
use Rattle.asm_variables.specs.declared.line_names.LineNames.{LineNames}
use Rattle.asm_variables.specs.declared.expansion.Expansion.{Expansion}
use Rattle.asm_expand.specs.declared.line_cursors.LineCursor.{LineCursor}
use Rattle.asm_variables.specs.Expanding.{Becomes}
use Rattle.asm_expand.specs.LineCursors.{cursor_lines}
use Rattle.asm_variables.specs.Valued.{Values}

abbrev pub IsNumber : List ℕ → Expansion → Operand → Option ℕ → Type 0
IsNumber word c x number = Values c (λ s. number ≡ equ_number (is_equ word) s x)

abbrev pub Numbers : Option (List ℕ) → Option ℕ → Map ℕ → Map ℕ → Type 0
Numbers name number old new =
    (q : List ℕ) → value_named new q ≡ or_else (value_named old q) (found q (number_rows name number))

abbrev pub Labels : Option (List ℕ) → LineNames → LineNames → Type 0
Labels name old new =
    (q : List ℕ) →
    has_noted new q ≡ (list_any (λ n. same n q) (listed name) || has_noted old q)

abbrev pub noted : Flat → Option (List ℕ) → Option ℕ → Bool → State → State
noted flat name number thumb s = record s {
  flats = s.flats ++ flat ∷ [];
  numbers = s.numbers ++ number_rows name number;
  labels = listed name ++ s.labels;
  thumb = thumb;
}

abbrev pub Pushes : Flat → Option (List ℕ) → Option ℕ → Bool → Expansion → Expansion → Type 0
Pushes flat name number thumb old new = Becomes old new (noted flat name number thumb)

-- the flat line that the first line becomes
abbrev pub IsFlat : LineCursor → List ℕ → Option Flat → Type 0
IsFlat at text None = cursor_lines at ≡ []
IsFlat at text (Some flat) = (l : Line) × (ls : List Line) × (cursor_lines at ≡ l ∷ ls) × (flat ≡ flat_of l text)

-- a text begins with a word
abbrev pub Begins : List ℕ → List ℕ → Type 0
Begins word text = (length word ≤ length text) × (word ≡ take (length word) text)
