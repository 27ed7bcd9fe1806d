-- The object that statements make: areas with their attributes and bytes, symbols, relocations and the entry. SDT 2.50
-- Reference Guide, ARM Object Format; which symbols there are and their order are this project's.
use Rattle.std.specs.Prelude.{◌≡◌, ◌⊎◌, ℕ, ◌+◌, ◌*◌, ◌%◌, ◌^◌, ◌<◌, ◌≤◌, ◌&&◌, List, [], ◌∷◌, ◌++◌, length, take, drop, map, get_or, slice_get, Bool, true, false, if◌then◌else◌, Option, Some, None, Result, Ok, Err}
use Rattle.std.specs.List.{list_any}
use Rattle.sdt_word.specs.Bytes.{bytes_of}
use Rattle.sdt_word.specs.Numbers.{flag}
use Rattle.sdt_word.specs.Rows.{word_of}
use Rattle.sdt_fault.specs.declared.kinds.LineKind.{LineKind}
use Rattle.arm_isa.specs.ArmRows.{arm_row, arm_fields}
use Rattle.thumb_isa.specs.ThumbRows.{thumb_row, thumb_fields}
use Rattle.thumb_isa.specs.declared.instr.ThumbInstr.{ThumbInstr}
use Rattle.thumb_isa.specs.declared.instr.ThumbInstr.TheVariants.{BranchLink}
use Rattle.aof_object.specs.declared.records.Area.{Area}
use Rattle.aof_object.specs.declared.records.Entry.{Entry}
use Rattle.aof_object.specs.declared.records.Object.{Object}
use Rattle.aof_object.specs.declared.records.Reloc.{Reloc}
use Rattle.aof_object.specs.declared.records.Symbol.{Symbol}
use Rattle.asm_model.specs.declared.directives.AreaAttributes.{AreaAttributes}
use Rattle.asm_model.specs.declared.directives.Contents.{Contents}
use Rattle.asm_model.specs.declared.directives.Contents.TheVariants as contents
use Rattle.asm_model.specs.declared.directives.DirectiveLine.TheVariants as line
use Rattle.asm_model.specs.declared.directives.ImportMark.TheVariants as mark
use Rattle.asm_model.specs.declared.names.LaidName.{LaidName}
use Rattle.asm_model.specs.declared.statements.Statement.{Statement}
use Rattle.asm_model.specs.declared.statements.What.{What}
use Rattle.asm_model.specs.declared.statements.What.TheVariants as what
use Rattle.asm_model.specs.declared.values.Value.{Value}
use Rattle.asm_model.specs.declared.values.Value.TheVariants.{Number, Place}
use Rattle.asm_model.specs.AtLine.{Nameless}
use Rattle.asm_model.specs.Directives.{or_else}
use Rattle.asm_model.specs.Forms.{same}
use Rattle.asm_model.specs.Meaning.{named_in, stands_at, value_of}
use Rattle.asm_model.specs.Before.{areas_behind, place_of, is_code}
use Rattle.asm_model.specs.Entries.{thumb_of}
use Rattle.asm_model.specs.Laid.{LaidLine, taken, pieces_of, laid, final_names}
use Rattle.asm_model.specs.LayoutKinds.{exponent, is_entry, is_thumb_area}
use Rattle.asm_model.specs.Marks.{datum_names}
use Rattle.asm_model.specs.Offsets.{is_of, area_size, all_pooled}
use Rattle.asm_model.specs.Symbols.{symbols_of, literal_value}
use Rattle.source_model.specs.Contexts.{Context, sees}
use Rattle.source_model.specs.SourceFaults.{context_of, word_of as literal_place}
use Rattle.source_model.specs.Units.{Emitted, Bytes, Word, Instruction, Half, LinkPair, Stored, RelocationTarget, Nothing, ByArea, BySymbol, stored, units}

-- ---- areas

abbrev pub contents_bits : Contents → ℕ
contents_bits contents.Code = 2 ^ 9
contents_bits contents.Data = 0
contents_bits contents.Zeroes = 2 ^ 12

-- by what AREA says, the exponent of the alignment, and whether the first instruction is of Thumb state
abbrev pub attributes_word : AreaAttributes → ℕ → Bool → ℕ
attributes_word a exponent thumb =
    exponent + contents_bits a.contents + flag a.read_only * 2 ^ 13 + flag a.pic * 2 ^ 14 + flag a.reentrant * 2 ^ 17 + flag thumb * 2 ^ 20
    + flag a.halfword * 2 ^ 21 + flag a.interwork * 2 ^ 22

abbrev pub or_two : Result ℕ LineKind → ℕ
or_two (Ok n) = n
or_two (Err k) = 2

abbrev pub says_area : ℕ → LaidLine → What → Bool → Option ℕ
says_area area l (what.Directive (line.Area name a)) thumb =
    if is_of area l.area then Some (attributes_word a (or_two (exponent l.seen a.alignments)) thumb) else None
says_area area l _ thumb = None

-- the attributes of an area, by its first line; lines are listed with the last first
abbrev pub attributes_of : ℕ → Bool → List LaidLine → Option ℕ
attributes_of area thumb [] = None
attributes_of area thumb (l ∷ before) = or_else (attributes_of area thumb before) (says_area area l l.statement.what thumb)

-- ---- what lines put

abbrev pub half_of : ThumbInstr → ℕ
half_of i = word_of (thumb_row i) (thumb_fields i)

-- both halves of BL as one word
abbrev pub link_word : ℕ → ℕ → ℕ
link_word first second = half_of (BranchLink false first) + half_of (BranchLink true second) * 2 ^ 16

abbrev pub unit_bytes : Emitted → List ℕ
unit_bytes (Bytes b) = b
unit_bytes (Word w) = bytes_of w.number 4
unit_bytes (Instruction i s) = bytes_of (word_of (arm_row i) (arm_fields i)) 4
unit_bytes (Half i) = bytes_of (half_of i) 2
unit_bytes (LinkPair first second s) = bytes_of (link_word first second) 4

abbrev pub units_bytes : List Emitted → List ℕ
units_bytes [] = []
units_bytes (u ∷ us) = unit_bytes u ++ units_bytes us

-- one thing of an area: where it stands, and what it is
abbrev pub Piece : Type 0
Piece = ℕ × Emitted

-- units one behind the other from an offset on
abbrev pub units_from : ℕ → List Emitted → List Piece
units_from at [] = []
units_from at (u ∷ us) = (at, u) ∷ units_from (at + length (unit_bytes u)) us

abbrev pub or_none : Result (List Emitted) LineKind → List Emitted
or_none (Ok us) = us
or_none (Err k) = []

-- what a line puts into its area, where the word of its literal is at an offset, if it has one
abbrev pub pieces_in : Context → List (List ℕ) → LaidLine → Option ℕ → List Piece
pieces_in c data_names l word = units_from l.offset (or_none (units c data_names l.seen word l.statement.what))

-- ---- the whole source

-- what all statements share
pub record Source : Type 0 where
  pub statements : List Statement
  pub lines : List LaidLine
  pub names : List LaidName

abbrev pub source_of : List Statement → Source
source_of statements = record { statements = statements; lines = laid statements; names = final_names (laid statements) }

-- a line of a source, with the lines before it, the nearest first, and those behind it
pub record At (s : Source) (l : LaidLine) : Type 0 where
  pub before : List LaidLine
  pub rest : List LaidLine
  pub parts : s.lines ≡ rest ++ l ∷ before

abbrev pub in_order : List LaidLine → List LaidLine → List LaidLine
in_order [] after = after
in_order (l ∷ ls) after = in_order ls (l ∷ after)

abbrev pub context_at : (s : Source) (l : LaidLine) → At s l → Context
context_at s l at = context_of s.names l at.before

abbrev pub word_at : (s : Source) (l : LaidLine) → At s l → Option ℕ
word_at s l at = literal_place l.area (taken l.extent) (pieces_of (l ∷ at.before)) (pieces_of (in_order at.rest []))

-- what a line puts into the area, where these lines stand before it, the nearest first, and these behind it, in their order
abbrev pub things_of : Source → ℕ → LaidLine → List LaidLine → List LaidLine → List Piece
things_of s area l before rest =
    if is_of area l.area then
    pieces_in (context_of s.names l before) (datum_names s.statements) l
    (literal_place l.area (taken l.extent) (pieces_of (l ∷ before)) (pieces_of rest))
    else []

-- what lines put into the area, in the order of the source, where these stand behind them
abbrev pub things_behind : Source → ℕ → List LaidLine → List LaidLine → List Piece
things_behind s area [] rest = []
things_behind s area (l ∷ before) rest = things_behind s area before (l ∷ rest) ++ things_of s area l before rest

-- ---- pools

-- what expressions see that are of no line, in an area or in none
abbrev pub context_in : Source → Option ℕ → Context
context_in s area = record {
  names = s.names;
  line = record { area = area; offset = 0; map = 0; thumb = false; definition = Nameless };
  registers = [];
}

abbrev pub literal_stored : Source → ℕ → Value → Result Stored LineKind
literal_stored s area v =
    stored (context_in s (Some area)) (datum_names s.statements) (literal_value (sees (context_in s (Some area))) v)

abbrev pub word_piece : ℕ → Result Stored LineKind → List Piece
word_piece at (Ok w) = (at, Word w) ∷ []
word_piece at (Err k) = []

-- the words of literals with their offsets
abbrev pub words_of : Source → ℕ → List (Value × ℕ) → List Piece
words_of s area [] = []
words_of s area (p ∷ ps) = word_piece p.1 (literal_stored s area p.0) ++ words_of s area ps

-- what stands in an area: what its lines put there, and the words of its pools
abbrev pub things_in : Source → ℕ → List Piece
things_in s area = things_behind s area s.lines [] ++ words_of s area (all_pooled area (pieces_of s.lines))

abbrev pub IsAmong : Piece → List Piece → Type 0
IsAmong p [] = ⊥
IsAmong p (q ∷ qs) = (p ≡ q) ⊎ IsAmong p qs

-- a thing stands in the area
abbrev pub StandsIn : Source → ℕ → Piece → Type 0
StandsIn s area p = IsAmong p (things_in s area)

-- the bytes of an area: those of what stands there, and else zeros
pub record HoldsBytes (s : Source) (area : ℕ) (bytes : List ℕ) : Type 0 where
  pub size : length bytes ≡ area_size area (pieces_of s.lines)
  pub standing : (p : Piece) → StandsIn s area p → take (length (unit_bytes p.1)) (drop p.0 bytes) ≡ unit_bytes p.1
  pub others : (i : ℕ) → ((p : Piece) → StandsIn s area p → (i < p.0) ⊎ (p.0 + length (unit_bytes p.1) ≤ i)) → get_or bytes i 0 ≡ 0

-- ---- relocations

abbrev pub symbol_number : Source → List ℕ → ℕ
symbol_number s name = place_of name (symbols_of s.names s.lines)

abbrev pub word_relocs : Source → ℕ → RelocationTarget → List Reloc
word_relocs s at Nothing = []
word_relocs s at (ByArea area) = record { offset = at; word = 2 ^ 31 + 2 * 2 ^ 24 + area } ∷ []
word_relocs s at (BySymbol name) = record { offset = at; word = 2 ^ 31 + 2 ^ 27 + 2 * 2 ^ 24 + symbol_number s name } ∷ []

abbrev pub branch_relocs : Source → ℕ → Option (List ℕ) → List Reloc
branch_relocs s at None = []
branch_relocs s at (Some name) = record { offset = at; word = 2 ^ 31 + 2 ^ 27 + 2 ^ 26 + 3 * 2 ^ 24 + symbol_number s name } ∷ []

-- an odd offset marks the pair of Thumb state
abbrev pub link_relocs : Source → ℕ → Option (List ℕ) → List Reloc
link_relocs s at symbol = branch_relocs s (at + 1) symbol

abbrev pub relocs_of : Source → Piece → List Reloc
relocs_of s (at, Bytes b) = []
relocs_of s (at, Word w) = word_relocs s at w.target
relocs_of s (at, Instruction i symbol) = branch_relocs s at symbol
relocs_of s (at, Half i) = []
relocs_of s (at, LinkPair first second symbol) = link_relocs s at symbol

abbrev pub IsRelocOf : List Reloc → Reloc → Type 0
IsRelocOf [] r = ⊥
IsRelocOf (q ∷ qs) r = (r ≡ q) ⊎ IsRelocOf qs r

abbrev pub IsRising : List Reloc → Type 0
IsRising [] = Unit {0}
IsRising (r ∷ []) = Unit {0}
IsRising (r ∷ q ∷ rs) = (r.offset < q.offset) × IsRising (q ∷ rs)

-- the relocations of what stands in an area, in the order of their offsets
pub record HasRelocs (s : Source) (area : ℕ) (relocs : List Reloc) : Type 0 where
  pub order : IsRising relocs
  pub all : (p : Piece) (r : Reloc) → StandsIn s area p → IsRelocOf (relocs_of s p) r → IsRelocOf relocs r
  pub no_others : (r : Reloc) → IsRelocOf relocs r → (p : Piece) × StandsIn s area p × IsRelocOf (relocs_of s p) r

-- ---- symbols

abbrev pub exports_name : List ℕ → What → Bool
exports_name name (what.Directive (line.Export n)) = same n name
exports_name name _ = false

abbrev pub is_weak_import : List ℕ → What → Bool
is_weak_import name (what.Directive (line.Import n mark.Weak)) = same n name
is_weak_import name (what.Directive (line.Extern n mark.Weak)) = same n name
is_weak_import name _ = false

abbrev pub is_exported : Source → List ℕ → Bool
is_exported s name = list_any (λ t. exports_name name t.what) s.statements

abbrev pub is_weak : Source → List ℕ → Bool
is_weak s name = list_any (λ t. is_weak_import name t.what) s.statements

abbrev pub scope : Source → List ℕ → ℕ
scope s name = if is_exported s name then 3 else 1

abbrev pub contents_in : ℕ → LaidLine → What → Option Contents
contents_in area l (what.Directive (line.Area name a)) = if is_of area l.area then Some a.contents else None
contents_in area l _ = None

abbrev pub contents_of : ℕ → List LaidLine → Option Contents
contents_of area [] = None
contents_of area (l ∷ before) = or_else (contents_of area before) (contents_in area l l.statement.what)

abbrev pub holds_code : Option Contents → Bool
holds_code None = false
holds_code (Some c) = is_code c

-- a datum is marked in a code area alone
abbrev pub marks_of : Source → List ℕ → ℕ → ℕ
marks_of s label area =
    flag (list_any (same label) (datum_names s.statements) && holds_code (contents_of area s.lines)) * 2 ^ 8
    + flag (thumb_of (named_in label s.names)) * 2 ^ 12

abbrev pub symbol_placed : Source → List ℕ → List ℕ → ℕ → Option (ℕ × ℕ) → Symbol
symbol_placed s name label n None = record { name = name; attributes = 2 + flag (is_weak s name) * 2 ^ 4; value = 0; area = None }
symbol_placed s name label n (Some a) = record {
  name = name;
  attributes = scope s name + marks_of s label a.0;
  value = (a.1 + n) % 2 ^ 32;
  area = Some a.0;
}

abbrev pub symbol_valued : Source → List ℕ → Result Value LineKind → Symbol
symbol_valued s name (Ok (Number n)) = record { name = name; attributes = scope s name + 2 ^ 2; value = n; area = None }
symbol_valued s name (Ok (Place label n)) = symbol_placed s name label n (stands_at (sees (context_in s None)) label)
symbol_valued s name _ = record { name = name; attributes = 0; value = 0; area = None }

abbrev pub symbol_named : Source → List ℕ → Symbol
symbol_named s name = symbol_valued s name (value_of (named_in name s.names))

abbrev pub symbol_records : Source → List Symbol
symbol_records s = map (symbol_named s) (symbols_of s.names s.lines)

-- ---- the entry

abbrev pub entry_by : Bool → Option ℕ → ℕ → Option Entry
entry_by true (Some area) offset = Some (record { area = area; offset = offset })
entry_by _ _ offset = None

abbrev pub entry_of : List LaidLine → Option Entry
entry_of [] = None
entry_of (l ∷ before) = or_else (entry_of before) (entry_by (is_entry l.statement.what) l.area l.offset)

-- ---- the object

-- whether an area keeps its bytes in the object
abbrev pub is_kept : Option Contents → Bool
is_kept (Some contents.Zeroes) = false
is_kept _ = true

abbrev pub KeepsBytes : Source → ℕ → Bool → List ℕ → Type 0
KeepsBytes s area true bytes = HoldsBytes s area bytes
KeepsBytes s area false bytes = bytes ≡ []

pub record IsArea (s : Source) (area : ℕ) (a : Area) : Type 0 where
  pub name : slice_get (areas_behind s.statements) area ≡ Some a.name
  pub attributes : attributes_of area (is_thumb_area area s.statements) s.lines ≡ Some a.attributes
  pub size : a.size ≡ area_size area (pieces_of s.lines)
  pub bytes : KeepsBytes s area (is_kept (contents_of area s.lines)) a.bytes
  pub relocs : HasRelocs s area a.relocs

-- the object of statements without faults
pub record IsObject (statements : List Statement) (o : Object) : Type 0 where
  pub count : length o.areas ≡ length (areas_behind statements)
  pub areas : (area : ℕ) (a : Area) → slice_get o.areas area ≡ Some a → IsArea (source_of statements) area a
  pub symbols : o.symbols ≡ symbol_records (source_of statements)
  pub entry : o.entry ≡ entry_of (laid statements)
