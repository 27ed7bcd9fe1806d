-- Steps of the code. This project's.
use Rattle.std.specs.Prelude.{ℕ, Bool}
use Rattle.expand_model.specs.Words as model
use Rattle.asm_variables.specs.declared.line_fields.Field.{Field}
use Rattle.asm_variables.specs.declared.line_fields.Field.TheVariants as field
use Rattle.asm_variables.specs.declared.line_fields.Words.{Words}

-- the bytes of a word in a field
abbrev pub passes : Field → ℕ → Bool
passes field.Label c = model.is_of_label c
passes field.Operation c = model.is_of_operation c

-- the words that code has of a line
abbrev pub words_shown : Words → model.Words
words_shown w = record { label = w.label.now; operation = w.operation.now; behind = w.behind.now }
