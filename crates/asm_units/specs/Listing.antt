-- What lists symbols, as code keeps it. This project's.
use Rattle.std.specs.Prelude.{ℕ, List, [], ◌∷◌, Option, Some, None}
use Rattle.asm_model.specs.declared.names.LaidName.{LaidName}
use Rattle.asm_model.specs.declared.names.Names.{Names}
use Rattle.asm_model.specs.declared.statements.What.{What}
use Rattle.asm_model.specs.declared.statements.What.TheVariants as what
use Rattle.asm_model.specs.declared.values.Value.{Value}
use Rattle.asm_model.specs.AtLine.{SourceLine, with_names}
use Rattle.asm_model.specs.Symbols.{word_symbols, literal_value, arm_symbols, thumb_symbols, directive_symbols}

-- one symbol, or none
abbrev pub one_symbol : Option (List ℕ) → List (List ℕ)
one_symbol None = []
one_symbol (Some s) = s ∷ []

-- the symbol of a literal, where there is one
abbrev pub loaded_symbols : Names → Option Value → List (List ℕ)
loaded_symbols names None = []
loaded_symbols names (Some v) = word_symbols names (literal_value names v)

-- the symbols that a statement with this literal names or needs
abbrev pub statement_symbols : List LaidName → SourceLine → Option Value → What → List (List ℕ)
statement_symbols names l literal what.Nothing = []
statement_symbols names l literal (what.Arm a) = arm_symbols names l a
statement_symbols names l literal (what.Thumb t) = thumb_symbols names l t
statement_symbols names l literal (what.Pseudo p) = loaded_symbols (with_names l names) literal
statement_symbols names l literal (what.Directive d) = directive_symbols names l d
