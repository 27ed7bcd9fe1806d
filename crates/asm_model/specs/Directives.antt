-- The names of directives, read in any case, and what each asks of the label field. ARM SDT 2.50 Reference Guide,
-- chapter on the assembler. This project's: a directive whose form names what it defines takes a name there,
-- DATA takes a label, and every other directive may have one, which is then a label of the line's place; on ROUT it
-- names nothing.
use Rattle.std.specs.Prelude.{ℕ, List, [], ◌∷◌, codes, if◌then◌else◌, Option, Some, None}
use Rattle.asm_model.specs.Tokens.{is_called}
use Rattle.asm_model.specs.declared.directives.Directive.{Directive}
use Rattle.asm_model.specs.declared.directives.Directive.TheVariants.{Area, Entry, End, Export, Import, Extern, Keep, Equ, Rn, Rout}
use Rattle.asm_model.specs.declared.directives.Directive.TheVariants.{Assert, Nofp, Opt, Ttl, Subt, Constants, Space, Align, Ltorg}
use Rattle.asm_model.specs.declared.directives.Directive.TheVariants.{Data, Map, Field, Code16, Code32, FloatingPoint, Expansion}
use Rattle.asm_model.specs.declared.directives.DataItem.TheVariants.{Word, UnalignedWord, HalfWord, Byte}
use Rattle.asm_model.specs.declared.directives.LabelNeed.{LabelNeed}
use Rattle.asm_model.specs.declared.directives.LabelNeed.TheVariants.{Optional, Label, Name}

-- what the first row with a word names
abbrev pub row_of : {A : Type 0} → List ℕ → List (List ℕ × A) → Option A
row_of word [] = None
row_of word (row ∷ rows) = if is_called row.0 word then Some row.1 else row_of word rows

-- areas, symbols and states
unfoldable pub named_symbol : List ℕ → Option Directive
named_symbol word = row_of word (
    (codes "AREA", Area) ∷ (codes "ENTRY", Entry) ∷ (codes "END", End) ∷ (codes "EXPORT", Export)
    ∷ (codes "GLOBAL", Export) ∷ (codes "IMPORT", Import) ∷ (codes "EXTERN", Extern) ∷ (codes "KEEP", Keep)
    ∷ (codes "EQU", Equ) ∷ (codes "*", Equ) ∷ (codes "RN", Rn) ∷ (codes "ROUT", Rout)
    ∷ (codes "CODE16", Code16) ∷ (codes "CODE32", Code32) ∷ [])

-- data and its place
unfoldable pub named_data : List ℕ → Option Directive
named_data word = row_of word (
    (codes "DCD", Constants Word) ∷ (codes "&", Constants Word) ∷ (codes "DCDU", Constants UnalignedWord)
    ∷ (codes "DCW", Constants HalfWord) ∷ (codes "DCB", Constants Byte) ∷ (codes "=", Constants Byte)
    ∷ (codes "SPACE", Space) ∷ (codes "%", Space) ∷ (codes "ALIGN", Align)
    ∷ (codes "LTORG", Ltorg) ∷ (codes "DATA", Data) ∷ (codes "MAP", Map) ∷ (codes "^", Map)
    ∷ (codes "FIELD", Field) ∷ (codes "#", Field) ∷ [])

-- reports, and floating-point data
unfoldable pub named_report : List ℕ → Option Directive
named_report word = row_of word (
    (codes "ASSERT", Assert) ∷ (codes "NOFP", Nofp) ∷ (codes "OPT", Opt) ∷ (codes "TTL", Ttl)
    ∷ (codes "SUBT", Subt) ∷ (codes "DCFS", FloatingPoint) ∷ (codes "DCFD", FloatingPoint)
    ∷ (codes "FN", FloatingPoint) ∷ [])

-- variables
unfoldable pub named_variable : List ℕ → Option Directive
named_variable word = row_of word (
    (codes "GBLA", Expansion) ∷ (codes "GBLL", Expansion) ∷ (codes "GBLS", Expansion) ∷ (codes "LCLA", Expansion)
    ∷ (codes "LCLL", Expansion) ∷ (codes "LCLS", Expansion) ∷ (codes "SETA", Expansion) ∷ (codes "SETL", Expansion)
    ∷ (codes "SETS", Expansion) ∷ [])

-- conditions, loops, macros and files
unfoldable pub named_structure : List ℕ → Option Directive
named_structure word = row_of word (
    (codes "IF", Expansion) ∷ (codes "[", Expansion) ∷ (codes "ELSE", Expansion) ∷ (codes "|", Expansion)
    ∷ (codes "ENDIF", Expansion) ∷ (codes "]", Expansion) ∷ (codes "WHILE", Expansion) ∷ (codes "WEND", Expansion)
    ∷ (codes "MACRO", Expansion) ∷ (codes "MEND", Expansion) ∷ (codes "MEXIT", Expansion) ∷ (codes "GET", Expansion)
    ∷ (codes "INCLUDE", Expansion) ∷ [])

-- the first that is there
abbrev pub or_else : {A : Type 0} → Option A → Option A → Option A
or_else (Some d) other = Some d
or_else None other = other

-- the directive that a word names
unfoldable pub directive_named : List ℕ → Option Directive
directive_named word =
    or_else (named_data word) (or_else (named_symbol word) (or_else (named_report word)
    (or_else (named_variable word) (named_structure word))))

-- what a directive asks of the label field
abbrev pub label_need : Directive → LabelNeed
label_need Area = Optional
label_need Entry = Optional
label_need End = Optional
label_need Export = Optional
label_need Import = Optional
label_need Extern = Optional
label_need Keep = Optional
label_need Equ = Name
label_need Rn = Name
label_need Rout = Optional
label_need Assert = Optional
label_need Nofp = Optional
label_need Opt = Optional
label_need Ttl = Optional
label_need Subt = Optional
label_need (Constants item) = Optional
label_need Space = Optional
label_need Align = Optional
label_need Ltorg = Optional
label_need Data = Label
label_need Map = Optional
label_need Field = Name
label_need Code16 = Optional
label_need Code32 = Optional
label_need FloatingPoint = Optional
label_need Expansion = Optional
