-- The directives by the first letters of their names.
use Rattle.std.proofs.Common.{◌≡◌, ℕ, List, [], ◌∷◌, ◌++◌, length, false, None, refl, sym, ◌∙◌, ap, codes, arith, ◌==◌}
use Rattle.asm_model.specs.Directives.{directive_named, named_data, named_symbol, named_report, named_variable, named_structure, row_of, or_else}
use Rattle.asm_model.specs.declared.directives.Directive.{Directive}
use Rattle.asm_model.specs.declared.directives.Directive.TheVariants.{Area, Entry, End, Export, Import, Extern, Keep, Equ, Rn, Rout}
use Rattle.asm_model.specs.declared.directives.Directive.TheVariants.{Assert, Nofp, Opt, Ttl, Subt, Constants, Space, Align, Ltorg}
use Rattle.asm_model.specs.declared.directives.Directive.TheVariants.{Data, Map, Field, Code16, Code32, FloatingPoint, Expansion}
use Rattle.asm_model.specs.declared.directives.DataItem.TheVariants.{Word, UnalignedWord, HalfWord, Byte}
use Rattle.asm_expr.specs.Beginnings.{BeginsWith}
use Rattle.asm_expr.proofs.RowLemmas.{few, begun_by, kept, appended}

abbrev data_rows : List (List ℕ × Directive)
data_rows = (codes "DCD", Constants Word) ∷ (codes "&", Constants Word) ∷ (codes "DCDU", Constants UnalignedWord)
    ∷ (codes "DCW", Constants HalfWord) ∷ (codes "DCB", Constants Byte) ∷ (codes "=", Constants Byte)
    ∷ (codes "SPACE", Space) ∷ (codes "%", Space) ∷ (codes "ALIGN", Align)
    ∷ (codes "LTORG", Ltorg) ∷ (codes "DATA", Data) ∷ (codes "MAP", Map) ∷ (codes "^", Map)
    ∷ (codes "FIELD", Field) ∷ (codes "#", Field) ∷ []

abbrev symbol_rows : List (List ℕ × Directive)
symbol_rows = (codes "AREA", Area) ∷ (codes "ENTRY", Entry) ∷ (codes "END", End) ∷ (codes "EXPORT", Export)
    ∷ (codes "GLOBAL", Export) ∷ (codes "IMPORT", Import) ∷ (codes "EXTERN", Extern) ∷ (codes "KEEP", Keep)
    ∷ (codes "EQU", Equ) ∷ (codes "*", Equ) ∷ (codes "RN", Rn) ∷ (codes "ROUT", Rout)
    ∷ (codes "CODE16", Code16) ∷ (codes "CODE32", Code32) ∷ []

abbrev report_rows : List (List ℕ × Directive)
report_rows = (codes "ASSERT", Assert) ∷ (codes "NOFP", Nofp) ∷ (codes "OPT", Opt) ∷ (codes "TTL", Ttl)
    ∷ (codes "SUBT", Subt) ∷ (codes "DCFS", FloatingPoint) ∷ (codes "DCFD", FloatingPoint)
    ∷ (codes "FN", FloatingPoint) ∷ []

abbrev variable_rows : List (List ℕ × Directive)
variable_rows = (codes "GBLA", Expansion) ∷ (codes "GBLL", Expansion) ∷ (codes "GBLS", Expansion) ∷ (codes "LCLA", Expansion)
    ∷ (codes "LCLL", Expansion) ∷ (codes "LCLS", Expansion) ∷ (codes "SETA", Expansion) ∷ (codes "SETL", Expansion)
    ∷ (codes "SETS", Expansion) ∷ []

abbrev structure_rows : List (List ℕ × Directive)
structure_rows = (codes "IF", Expansion) ∷ (codes "[", Expansion) ∷ (codes "ELSE", Expansion) ∷ (codes "|", Expansion)
    ∷ (codes "ENDIF", Expansion) ∷ (codes "]", Expansion) ∷ (codes "WHILE", Expansion) ∷ (codes "WEND", Expansion)
    ∷ (codes "MACRO", Expansion) ∷ (codes "MEND", Expansion) ∷ (codes "MEXIT", Expansion) ∷ (codes "GET", Expansion)
    ∷ (codes "INCLUDE", Expansion) ∷ []

abbrev pub all_rows : List (List ℕ × Directive)
all_rows = data_rows ++ (symbol_rows ++ (report_rows ++ (variable_rows ++ structure_rows)))

all_are : (word : List ℕ) → row_of word all_rows ≡ directive_named word
unfolding directive_named named_data named_symbol named_report named_variable named_structure
all_are word =
    appended word data_rows (symbol_rows ++ (report_rows ++ (variable_rows ++ structure_rows)))
    ∙ ap (or_else (row_of word data_rows)) (appended word symbol_rows (report_rows ++ (variable_rows ++ structure_rows))
    ∙ ap (or_else (row_of word symbol_rows)) (appended word report_rows (variable_rows ++ structure_rows)
    ∙ ap (or_else (row_of word report_rows)) (appended word variable_rows structure_rows)))

-- the rows for words with this first letter
pub named : (letter k : ℕ) (word : List ℕ) → letter ≡ k → BeginsWith letter word → row_of word (begun_by k all_rows) ≡ directive_named word
named letter k word e h = few letter k word (begun_by k all_rows) all_rows e h (λ s. kept k s all_rows) ∙ all_are word

abbrev pub sign_rows : List (List ℕ × Directive)
sign_rows = (codes "&", Constants Word) ∷ (codes "=", Constants Byte) ∷ (codes "%", Space) ∷ (codes "^", Map) ∷ (codes "#", Field)
    ∷ (codes "*", Equ) ∷ (codes "[", Expansion) ∷ (codes "|", Expansion) ∷ (codes "]", Expansion) ∷ []

-- a letter that begins no name
pub sign_named : (letter : ℕ) (word : List ℕ) → BeginsWith letter word
    → (letter == 97) ≡ false → (letter == 99) ≡ false → (letter == 100) ≡ false → (letter == 101) ≡ false
    → (letter == 102) ≡ false → (letter == 103) ≡ false → (letter == 105) ≡ false → (letter == 107) ≡ false
    → (letter == 108) ≡ false → (letter == 109) ≡ false → (letter == 110) ≡ false → (letter == 111) ≡ false
    → (letter == 114) ≡ false → (letter == 115) ≡ false → (letter == 116) ≡ false → (letter == 119) ≡ false
    → row_of word sign_rows ≡ directive_named word
sign_named letter word h a c d e f g i k l m n o r s t w =
    few letter letter word sign_rows all_rows refl h (λ z. rw (a, c, d, e, f, g, i, k, l, m, n, o, r, s, t, w) refl) ∙ all_are word

pub empty_named : (word : List ℕ) → length word ≡ 0 → directive_named word ≡ None
empty_named [] h = sym (all_are [])
empty_named (c ∷ cs) h = absurd (omega arith)
