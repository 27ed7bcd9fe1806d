-- The one spelling of an object (SDT 2.50 Reference Guide, ARM Object Format; the order of the chunks
-- and of the names is this project's).
use Rattle.std.specs.Prelude.{ℕ, ◌+◌, if◌then◌else◌, List, [], ◌∷◌, ◌++◌, length, map, slice_get, unwrap_or, Option, Some, None, Result, codes}
use Rattle.std.specs.List.{flat_map}
use Rattle.std.specs.Str.{bytes_eq}
use Rattle.sdt_word.specs.Bytes.{bytes_of}
use Rattle.sdt_fault.specs.declared.refusal.Refusal.{Refusal}
use Rattle.chunk_file.specs.declared.records.Chunk.{Chunk}
use Rattle.chunk_file.specs.declared.records.Chunks.{Chunks}
use Rattle.chunk_file.specs.Chunks as file
use Rattle.aof_object.specs.declared.records.Area.{Area}
use Rattle.aof_object.specs.declared.records.Entry.{Entry}
use Rattle.aof_object.specs.declared.records.Object.{Object}
use Rattle.aof_object.specs.declared.records.Reloc.{Reloc}
use Rattle.aof_object.specs.declared.records.Symbol.{Symbol}
use Rattle.aof_object.specs.Names.{among}

-- ---- the string table: each distinct name once, at its first occurrence

abbrev pub gathered : List (List ℕ) → List (List ℕ) → List (List ℕ)
gathered before [] = before
gathered before (n ∷ ns) = gathered (if among n before then before else before ++ n ∷ []) ns

abbrev pub area_names : List Area → List (List ℕ)
area_names areas = map (λ a. a.name) areas

abbrev pub symbol_names : List Symbol → List (List ℕ)
symbol_names symbols = map (λ s. s.name) symbols

abbrev pub names_of : Object → List (List ℕ)
names_of o = gathered [] (area_names o.areas ++ symbol_names o.symbols)

abbrev pub ended : List ℕ → List ℕ
ended n = n ++ 0 ∷ []

-- its length, that word included, and the names
abbrev pub strings_of : List (List ℕ) → List ℕ
strings_of ns = bytes_of (4 + length (flat_map ended ns)) 4 ++ flat_map ended ns

-- where a name stands that is one of them, the first from an offset on
abbrev pub spot_from : ℕ → List ℕ → List (List ℕ) → Option ℕ
spot_from at q [] = None
spot_from at q (n ∷ ns) = if bytes_eq n q then Some at else spot_from (at + (length n + 1)) q ns

abbrev pub place : List (List ℕ) → List ℕ → ℕ
place ns q = unwrap_or (spot_from 4 q ns) 0

-- ---- rows

-- an area's row, with the place of its name
abbrev pub area_row_at : ℕ → Area → List ℕ
area_row_at at a = bytes_of at 4 ++ (bytes_of a.attributes 4 ++ (bytes_of a.size 4 ++ (bytes_of (length a.relocs) 4 ++ bytes_of 0 4)))

abbrev pub area_row : List (List ℕ) → Area → List ℕ
area_row ns a = area_row_at (place ns a.name) a

abbrev pub entry_row : Option Entry → List ℕ
entry_row None = bytes_of 0 4 ++ bytes_of 0 4
entry_row (Some e) = bytes_of (e.area + 1) 4 ++ bytes_of e.offset 4

abbrev pub head_row : Object → List ℕ
head_row o = bytes_of 0xC5E2D080 4 ++ (bytes_of 310 4 ++ (bytes_of (length o.areas) 4 ++ (bytes_of (length o.symbols) 4 ++ entry_row o.entry)))

abbrev pub reloc_row : Reloc → List ℕ
reloc_row r = bytes_of r.offset 4 ++ bytes_of r.word 4

abbrev pub content_of : Area → List ℕ
content_of a = a.bytes ++ flat_map reloc_row a.relocs

-- the word for a symbol's area: 0 for none, else where the area's name stands
abbrev pub area_place : List (List ℕ) → Option Area → ℕ
area_place ns None = 0
area_place ns (Some a) = place ns a.name

abbrev pub area_word : List (List ℕ) → List Area → Option ℕ → ℕ
area_word ns areas None = 0
area_word ns areas (Some k) = area_place ns (slice_get areas k)

-- a symbol's row, with the places of its name and its area's
abbrev pub symbol_row_at : ℕ → ℕ → Symbol → List ℕ
symbol_row_at at home s = bytes_of at 4 ++ (bytes_of s.attributes 4 ++ (bytes_of s.value 4 ++ bytes_of home 4))

abbrev pub symbol_row : List (List ℕ) → List Area → Symbol → List ℕ
symbol_row ns areas s = symbol_row_at (place ns s.name) (area_word ns areas s.area) s

-- ---- the chunks and the file

abbrev pub head_bytes : Object → List ℕ
head_bytes o = head_row o ++ flat_map (area_row (names_of o)) o.areas

abbrev pub symbol_bytes : Object → List ℕ
symbol_bytes o = flat_map (symbol_row (names_of o) o.areas) o.symbols

abbrev pub chunk : List ℕ → List ℕ → Option Chunk
chunk name bytes = Some (record { name = name; bytes = bytes })

abbrev pub chunks_from : List ℕ → List ℕ → List ℕ → List ℕ → Chunks
chunks_from head content table strings = record {
  list =
      chunk (codes "OBJ_HEAD") head
      ∷ chunk (codes "OBJ_AREA") content
      ∷ chunk (codes "OBJ_IDFN") (ended (codes "armsdt"))
      ∷ chunk (codes "OBJ_SYMT") table
      ∷ chunk (codes "OBJ_STRT") strings
      ∷ [];
}

abbrev pub chunks_of : Object → Chunks
chunks_of o = chunks_from (head_bytes o) (flat_map content_of o.areas) (symbol_bytes o) (strings_of (names_of o))

abbrev pub spelled : Object → List ℕ
spelled o = file.spelled (chunks_of o)

-- the spelling, where it has fewer than 2^32 bytes
abbrev pub written : Object → Result (List ℕ) Refusal
written o = file.written (chunks_of o)
