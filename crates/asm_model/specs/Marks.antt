-- Labels of Thumb code in words. In DCD, DCDU and LDR with a literal, a label of Thumb code that is no datum counts with 1
-- added; an imported one does so when it is linked. A label is a datum where DATA has it. SDT 2.50 Reference Guide, chapter
-- on the assembler.
use Rattle.std.specs.Prelude.{ℕ, List, [], ◌∷◌, ◌++◌, ◌&&◌, not, Bool, if◌then◌else◌, Option, Some}
use Rattle.std.specs.List.{list_any}
use Rattle.asm_model.specs.declared.names.Names.{Names}
use Rattle.asm_model.specs.declared.directives.DirectiveLine.TheVariants as line
use Rattle.asm_model.specs.declared.statements.Statement.{Statement}
use Rattle.asm_model.specs.declared.statements.What.{What}
use Rattle.asm_model.specs.declared.statements.What.TheVariants as what
use Rattle.asm_model.specs.Forms.{same}
use Rattle.asm_model.specs.Meaning.{named_in}
use Rattle.asm_model.specs.Entries.{thumb_of}

abbrev pub datum_in : Option (List ℕ) → What → List (List ℕ)
datum_in (Some name) (what.Directive line.Data) = name ∷ []
datum_in _ w = []

-- the labels that are data
abbrev pub datum_names : List Statement → List (List ℕ)
datum_names [] = []
datum_names (s ∷ before) = datum_names before ++ datum_in s.label s.what

-- whether a symbol counts one more in a word
abbrev pub counts_one : List (List ℕ) → Names → List ℕ → Bool
counts_one data_names names s = thumb_of (named_in s names.list) && not (list_any (same s) data_names)

abbrev pub thumb_bit : Bool → ℕ
thumb_bit counts = if counts then 1 else 0
