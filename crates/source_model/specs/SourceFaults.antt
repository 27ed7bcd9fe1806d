-- The first faulty line of statements: in the pass of layout, and, where that has none, in the pass of values. This
-- project's. What a source without an AREA and lines that can't be read tell is judged with the lines.
use Rattle.std.specs.Prelude.{ℕ, List, [], ◌∷◌, ◌++◌, Option, Some, None}
use Rattle.sdt_fault.specs.declared.kinds.LineKind.{LineKind}
use Rattle.asm_model.specs.declared.names.LaidName.{LaidName}
use Rattle.asm_model.specs.declared.statements.Statement.{Statement}
use Rattle.asm_model.specs.Directives.{or_else}
use Rattle.asm_model.specs.Kinds.{told_kind}
use Rattle.asm_model.specs.Extents.{Extent, Loading}
use Rattle.asm_model.specs.Laid.{LaidLine, taken, pieces_of, laid, reversed, final_names}
use Rattle.asm_model.specs.LayoutKinds.{layout_kinds, told_at, first_late, settled, equals_in}
use Rattle.asm_model.specs.Marks.{datum_names}
use Rattle.asm_model.specs.Offsets.{Piece, area_size, literal_word}
use Rattle.source_model.specs.Contexts.{Context}
use Rattle.source_model.specs.Registers.{register_names, register_kinds, registers_behind}
use Rattle.source_model.specs.ValueKinds.{value_kinds}

-- ---- the pass of layout

-- the first line with a fault of its own, where a source has these names for registers, these settled names and these
-- statements that can be read
abbrev pub first_laid : List (List ℕ) → List (List ℕ) → List Statement → List LaidLine → Option (Statement × LineKind)
first_laid registers settled all [] = None
first_laid registers settled all (l ∷ before) =
    or_else (first_laid registers settled all before)
    (told_at l.statement (told_kind (layout_kinds settled all l before ++ register_kinds registers l before)))

abbrev pub layout_faults : List Statement → Option (Statement × LineKind)
layout_faults statements =
    or_else (first_laid (register_names statements) (settled (equals_in statements)) statements (laid statements))
    (first_late (laid statements) [] (reversed (laid statements) []))

-- ---- the pass of values

-- the offset of the word of a statement's literal, where these pieces stand before it and these behind
abbrev pub word_of : Option ℕ → Extent → List Piece → List Piece → Option ℕ
word_of (Some area) (Loading n v) before rest = Some (literal_word area before rest v)
word_of _ _ before rest = None

abbrev pub context_of : List LaidName → LaidLine → List LaidLine → Context
context_of names l before = record { names = names; line = l.line; registers = registers_behind before }

-- the first line with a fault of values, where these lines stand before it, the nearest first, and these from it on
abbrev pub first_valued : List LaidLine → List Statement → List LaidLine → List LaidLine → Option (Statement × LineKind)
first_valued all statements before [] = None
first_valued all statements before (l ∷ rest) =
    or_else
    (told_at l.statement
    (told_kind
    (value_kinds (context_of (final_names all) l before) (datum_names statements)
    (λ area. area_size area (pieces_of all)) l.seen (taken l.extent)
    (word_of l.area (taken l.extent) (pieces_of (l ∷ before)) (pieces_of rest))
    l.statement.what)))
    (first_valued all statements (l ∷ before) rest)

abbrev pub value_faults : List Statement → Option (Statement × LineKind)
value_faults statements = first_valued (laid statements) statements [] (reversed (laid statements) [])

-- ---- both

-- the first faulty line of statements: the pass of layout counts before that of values
abbrev pub statements_fault : List Statement → Option (Statement × LineKind)
statements_fault statements = or_else (layout_faults statements) (value_faults statements)
