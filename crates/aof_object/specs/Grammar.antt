-- What an object file says, as a relation between its bytes and a record, apart from how it is read
-- (SDT 2.50 Reference Guide, ARM Object Format).
use Rattle.std.specs.Prelude.{◌≡◌, ◌↔◌, ℕ, ◌+◌, ◌*◌, ◌^◌, ◌<◌, ◌≤◌, List, [], ◌∷◌, length, take, drop, Option, Some, None, Ok, codes}
use Rattle.std.specs.List.{AllByRecursion}
use Rattle.sdt_word.specs.Bytes.{word_in}
use Rattle.chunk_file.specs.declared.records.Span.{Span}
use Rattle.chunk_file.specs.Reading.{EachStands}
use Rattle.chunk_file.specs.Chunks.{bytes_at}
use Rattle.chunk_file.specs.Grammar.{ReadsTable}
use Rattle.aof_object.specs.declared.parts.Parts.{Parts}
use Rattle.aof_object.specs.declared.areas.AreaHead.{AreaHead}
use Rattle.aof_object.specs.declared.records.Area.{Area}
use Rattle.aof_object.specs.declared.records.Entry.{Entry}
use Rattle.aof_object.specs.declared.records.Object.{Object}
use Rattle.aof_object.specs.declared.records.Reloc.{Reloc}
use Rattle.aof_object.specs.declared.records.Symbol.{Symbol}
use Rattle.aof_object.specs.Names.{IsNameAt, number_from}
use Rattle.aof_object.specs.Parts.{named, no_symbols, told_symbols}
use Rattle.aof_object.specs.Objects.{stored, total, object_of}
use Rattle.aof_object.specs.Spelling.{area_names, spelled}
use Rattle.aof_object.specs.Validity.{head_of, heads, IsValid}

-- ---- the chunks

-- the symbol table stands once, or not at all where there is no symbol
abbrev pub IsSymbolTable : ℕ → List Span → Span → Type 0
IsSymbolTable count [] s = (count ≡ 0) × (s ≡ no_symbols)
IsSymbolTable count (t ∷ []) s = s ≡ t
IsSymbolTable count (t ∷ u ∷ ts) s = ⊥

pub record HasParts (b : List ℕ) (spans : List (Option Span)) (p : Parts) : Type 0 where
  pub head : named (codes "OBJ_HEAD") spans ≡ p.head ∷ []
  pub areas : named (codes "OBJ_AREA") spans ≡ p.areas ∷ []
  pub strings : named (codes "OBJ_STRT") spans ≡ p.strings ∷ []
  pub symbols : IsSymbolTable (told_symbols (bytes_at b p.head)) (named (codes "OBJ_SYMT") spans) p.symbols

-- ---- rows

-- the row in OBJ_HEAD says the area
pub record SaysHead (strings row : List ℕ) (h : AreaHead) : Type 0 where
  pub name : IsNameAt strings (word_in row 0) h.name
  pub attributes : h.attributes ≡ word_in row 4
  pub size : h.size ≡ word_in row 8
  pub count : h.count ≡ word_in row 12
  pub base : word_in row 16 ≡ 0

pub record SaysReloc (row : List ℕ) (r : Reloc) : Type 0 where
  pub offset : r.offset ≡ word_in row 0
  pub word : r.word ≡ word_in row 4

-- OBJ_AREA has the area's bytes from a place on, and then its relocations
pub record SaysArea (content : List ℕ) (at : ℕ) (a : Area) : Type 0 where
  pub bytes : a.bytes ≡ take (stored a.attributes a.size) (drop at content)
  pub relocs : EachStands (λ before r. SaysReloc (drop (at + stored a.attributes a.size + 8 * length before) content) r) [] a.relocs

-- a word is 0 for no area, or the place of the name of the area with this number
abbrev pub SaysHome : List ℕ → List (List ℕ) → ℕ → Option ℕ → Type 0
SaysHome strings names word None = word ≡ 0
SaysHome strings names word (Some k) = (q : List ℕ) × IsNameAt strings word q × (number_from 0 q names ≡ Some k)

pub record SaysSymbol (strings : List ℕ) (names : List (List ℕ)) (row : List ℕ) (s : Symbol) : Type 0 where
  pub name : IsNameAt strings (word_in row 0) s.name
  pub attributes : s.attributes ≡ word_in row 4
  pub value : s.value ≡ word_in row 8
  pub area : SaysHome strings names (word_in row 12) s.area

-- area 0 is none, and others are counted from 1
abbrev pub SaysEntry : ℕ → ℕ → Option Entry → Type 0
SaysEntry area offset None = area ≡ 0
SaysEntry area offset (Some e) = (area ≡ e.area + 1) × (offset ≡ e.offset)

-- ---- the whole

pub record SaysObject (head content strings table : List ℕ) (o : Object) : Type 0 where
  pub long : 24 ≤ length head
  pub long_for_areas : 24 + 20 * word_in head 8 ≤ length head
  pub magic : word_in head 0 ≡ 0xC5E2D080
  pub version : word_in head 4 ≡ 310
  pub strings_long : 4 ≤ length strings
  pub strings_length : word_in strings 0 ≡ length strings
  pub area_count : length o.areas ≡ word_in head 8
  pub area_rows : EachStands (λ before a. SaysHead strings (drop (24 + 20 * length before) head) (head_of a)) [] o.areas
  pub area_bytes : total (heads o.areas) ≡ length content
  pub areas : EachStands (λ before a. SaysArea content (total (take (length before) (heads o.areas))) a) [] o.areas
  pub symbol_bytes : length table ≡ 16 * word_in head 12
  pub symbol_count : length o.symbols ≡ word_in head 12
  pub symbol_rows : EachStands (λ before s. SaysSymbol strings (area_names o.areas) (drop (16 * length before) table) s) [] o.symbols
  pub entry : SaysEntry (word_in head 16) (word_in head 20) o.entry
  pub valid : IsValid o

-- the bytes are an object file of this object
abbrev pub ReadsObject : List ℕ → Object → Type 0
ReadsObject b o = (spans : List (Option Span)) × (p : Parts) × ReadsTable b spans × HasParts b spans p × SaysObject (bytes_at b p.head) (bytes_at b p.areas) (bytes_at b p.strings) (bytes_at b p.symbols) o

-- ---- the laws

abbrev pub ObjectLaw : Type 0
ObjectLaw = (b : List ℕ) (o : Object) → (object_of b ≡ Ok o) ↔ ReadsObject b o

-- bytes have at most one record
abbrev pub OneRecord : Type 0
OneRecord = (b : List ℕ) (o p : Object) → ReadsObject b o → ReadsObject b p → o ≡ p

-- its numbers are words, as those of the program's records are
pub record AreaFits (a : Area) : Type 0 where
  pub attributes : a.attributes < 2 ^ 32
  pub relocs : AllByRecursion (λ r. (r.offset < 2 ^ 32) × (r.word < 2 ^ 32)) a.relocs

pub record Fits (o : Object) : Type 0 where
  pub areas : AllByRecursion AreaFits o.areas
  pub symbols : AllByRecursion (λ s. (s.attributes < 2 ^ 32) × (s.value < 2 ^ 32)) o.symbols

-- what is spelled is read
abbrev pub SpellingLaw : Type 0
SpellingLaw = (o : Object) → IsValid o → Fits o → length (spelled o) < 2 ^ 32 → ReadsObject (spelled o) o
