-- The words of expansion, read in any case: variables, conditions, loops, macros and files. ARM SDT 2.50 Reference
-- Guide, chapter on the assembler.
use Rattle.std.specs.Prelude.{ℕ, List, [], ◌∷◌, codes, Option}
use Rattle.expand_model.specs.declared.operations.Operation.{Operation}
use Rattle.expand_model.specs.declared.operations.Operation.TheVariants.{If, Else, EndIf, While, WEnd, Macro, MEnd, MExit, Get, Global, Local, Set}
use Rattle.expand_model.specs.declared.operations.Sort.TheVariants.{Arithmetic, Logical, Textual}
use Rattle.asm_model.specs.Directives.{or_else, row_of}

-- variables
unfoldable pub variable_word : List ℕ → Option Operation
variable_word word = row_of word (
    (codes "GBLA", Global Arithmetic) ∷ (codes "GBLL", Global Logical) ∷ (codes "GBLS", Global Textual)
    ∷ (codes "LCLA", Local Arithmetic) ∷ (codes "LCLL", Local Logical) ∷ (codes "LCLS", Local Textual)
    ∷ (codes "SETA", Set Arithmetic) ∷ (codes "SETL", Set Logical) ∷ (codes "SETS", Set Textual) ∷ [])

-- conditions, loops, macros and files
unfoldable pub structure_word : List ℕ → Option Operation
structure_word word = row_of word (
    (codes "IF", If) ∷ (codes "[", If) ∷ (codes "ELSE", Else) ∷ (codes "|", Else) ∷ (codes "ENDIF", EndIf)
    ∷ (codes "]", EndIf) ∷ (codes "WHILE", While) ∷ (codes "WEND", WEnd) ∷ (codes "MACRO", Macro)
    ∷ (codes "MEND", MEnd) ∷ (codes "MEXIT", MExit) ∷ (codes "GET", Get) ∷ (codes "INCLUDE", Get) ∷ [])

-- the word of expansion that an operation names
unfoldable pub operation_of : List ℕ → Option Operation
operation_of word = or_else (structure_word word) (variable_word word)
