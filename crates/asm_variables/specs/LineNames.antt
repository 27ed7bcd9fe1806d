-- Names in the label fields of lines. This project's.
use Rattle.std.specs.Prelude.{ℕ, List, Bool, ◌||◌}
use Rattle.std.specs.List.{list_any}
use Rattle.asm_model.specs.Forms.{same}
use Rattle.asm_variables.specs.declared.line_names.LineNames.{LineNames}
use Rattle.asm_variables.specs.Maps.{has_name}

-- whether a name was noted: it waits, or the index has it
abbrev pub has_noted : LineNames → List ℕ → Bool
has_noted c q = list_any (λ name. same name q) c.waiting.items || has_name c.index q
