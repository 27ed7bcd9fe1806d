-- Which objects are valid: what an object file may say (SDT 2.50 Reference Guide, ARM Object Format; the
-- limits of the alignment and of the size, the refused bits, that no two areas share a name and that no
-- two exported symbols do are this project's).
use Rattle.std.specs.Prelude.{◌≡◌, ◌≢◌, ℕ, ◌%◌, ◌^◌, ◌<◌, ◌≤◌, true, false, List, [], length, map, slice_get, Option, Some, None, IsSomeAnd}
use Rattle.std.specs.List.{AllByRecursion}
use Rattle.sdt_word.specs.Numbers.{bit}
use Rattle.chunk_file.specs.Reading.{EachStands}
use Rattle.aof_object.specs.declared.areas.AreaHead.{AreaHead}
use Rattle.aof_object.specs.declared.records.Area.{Area}
use Rattle.aof_object.specs.declared.records.Entry.{Entry}
use Rattle.aof_object.specs.declared.records.Object.{Object}
use Rattle.aof_object.specs.declared.records.Reloc.{Reloc}
use Rattle.aof_object.specs.declared.records.Symbol.{Symbol}
use Rattle.aof_object.specs.Names.{IsText, Lacks}
use Rattle.aof_object.specs.Checks.{refused_area_bits, misplaced, named_by, is_exported, is_placed, refused_symbol_bits, left_over}
use Rattle.aof_object.specs.Objects.{stored, exported}
use Rattle.aof_object.specs.Spelling.{area_names}

-- what OBJ_HEAD says of an area
abbrev pub head_of : Area → AreaHead
head_of a = record { name = a.name; attributes = a.attributes; size = a.size; count = length a.relocs }

abbrev pub heads : List Area → List AreaHead
heads areas = map head_of areas

-- an area's head may stand behind areas of these names
pub record IsArea (names : List (List ℕ)) (h : AreaHead) : Type 0 where
  pub fresh : Lacks names h.name
  pub permitted : refused_area_bits h.attributes ≡ 0
  pub alignment_least : 2 ≤ h.attributes % 256
  pub alignment_most : h.attributes % 256 ≤ 16
  pub whole_words : h.size % 4 ≡ 0
  pub size_most : h.size ≤ 2 ^ 24
  pub relocs_have_bytes : misplaced h.attributes h.count ≡ 0

pub record IsReloc (areas symbols : ℕ) (r : Reloc) : Type 0 where
  pub form : bit r.word 31 ≡ 1
  pub index : r.word % 2 ^ 24 < named_by areas symbols r.word

-- an area's name is a text, it has its bytes, or none where it is zero-initialised, and its relocations
-- name what there is
pub record Holds (areas symbols : ℕ) (a : Area) : Type 0 where
  pub name : IsText a.name
  pub bytes : length a.bytes ≡ stored a.attributes a.size
  pub relocs : AllByRecursion (IsReloc areas symbols) a.relocs

-- a symbol may be in this area: a definition that isn't absolute is in one, at most at its end
abbrev pub Lives : List AreaHead → ℕ → ℕ → Option ℕ → Type 0
Lives heads attributes value None = is_placed attributes ≡ false
Lives heads attributes value (Some k) = IsSomeAnd (slice_get heads k) (λ h. is_placed attributes ≡ true → value ≤ h.size)

-- a symbol may stand behind symbols that export these names
pub record IsSymbol (names : List (List ℕ)) (heads : List AreaHead) (s : Symbol) : Type 0 where
  pub fresh : is_exported s.attributes ≡ true → Lacks names s.name
  pub permitted : refused_symbol_bits s.attributes ≡ 0
  pub scope : s.attributes % 4 ≢ 0
  pub lives : Lives heads s.attributes s.value s.area

-- the entry is at an instruction's place in an area
abbrev pub IsEntered : List AreaHead → Option Entry → Type 0
IsEntered heads None = Unit {0}
IsEntered heads (Some e) = IsSomeAnd (slice_get heads e.area) (λ h. (e.offset < h.size) × (left_over h.attributes e.offset ≡ 0))

pub record IsValid (o : Object) : Type 0 where
  pub areas : EachStands (λ before a. IsArea (area_names before) (head_of a)) [] o.areas
  pub contents : AllByRecursion (Holds (length o.areas) (length o.symbols)) o.areas
  pub symbols : EachStands (λ before s. IsSymbol (exported before) (heads o.areas) s) [] o.symbols
  pub symbol_names : AllByRecursion (λ s. IsText s.name) o.symbols
  pub entry : IsEntered (heads o.areas) o.entry
