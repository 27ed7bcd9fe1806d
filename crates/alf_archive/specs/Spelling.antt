-- The one spelling of a library (SDT 2.50 Reference Guide, ARM Object Library Format; the order of the
-- chunks, the zero bytes behind a name and the version are this project's).
use Rattle.std.specs.Prelude.{◌≡◌, ℕ, ◌+◌, ◌-◌, ◌%◌, ◌^◌, ◌≤◌, List, [], ◌∷◌, ◌++◌, length, map, replicate, Option, Result, Ok, Err, codes}
use Rattle.std.specs.List.{flat_map}
use Rattle.sdt_word.specs.Bytes.{bytes_of}
use Rattle.sdt_fault.specs.declared.answer.Fault.{Fault}
use Rattle.sdt_fault.specs.declared.answer.Fault.TheVariants as fault
use Rattle.sdt_fault.specs.declared.kinds.Quantity.TheVariants.{FileBytes}
use Rattle.sdt_fault.specs.declared.refusal.Refusal.{Refusal}
use Rattle.sdt_fault.specs.declared.refusal.Refusal.TheVariants.{TooLarge}
use Rattle.chunk_file.specs.declared.records.Chunk.{Chunk}
use Rattle.chunk_file.specs.declared.records.Chunks.{Chunks}
use Rattle.chunk_file.specs.Chunks as file
use Rattle.aof_object.specs.declared.records.Symbol.{Symbol}
use Rattle.aof_object.specs.Objects.{exported}
use Rattle.aof_object.specs.Spelling as object
use Rattle.alf_archive.specs.declared.records.Member.{Member}
use Rattle.alf_archive.specs.declared.records.Archive.{Archive}
use Rattle.alf_archive.specs.Numbered.{numbered}

-- ---- entries

-- a name with one zero byte behind it, and more up to a multiple of 4
abbrev pub padded : List ℕ → List ℕ
padded name = name ++ replicate (4 - length name % 4) 0

-- chunk index, entry length, data length, data
abbrev pub entry : ℕ → List ℕ → List ℕ
entry index text = bytes_of index 4 ++ (bytes_of (length text + 12) 4 ++ (bytes_of (length text) 4 ++ text))

-- a member's entry in LIB_DIRY has eight zero bytes, the time, behind the name
abbrev pub name_and_time : List ℕ → List ℕ
name_and_time name = padded name ++ replicate 8 0

abbrev pub member_entry : ℕ → Member → List ℕ
member_entry index m = entry index (name_and_time m.name)

-- OFL_SYMT has an entry for each exported name, in the order of the symbols
abbrev pub name_entry : ℕ → List ℕ → List ℕ
name_entry index name = entry index (padded name)

abbrev pub symbol_entries : ℕ → List Symbol → List ℕ
symbol_entries index symbols = flat_map (name_entry index) (exported symbols)

abbrev pub member_symbols : ℕ → Member → List ℕ
member_symbols index m = symbol_entries index m.object.symbols

-- ---- the chunks and the file

-- five chunks stand before those of the members, so that the first member has chunk index 5
abbrev pub directory_of : List Member → List ℕ
directory_of ms = numbered member_entry 5 ms

abbrev pub symbols_of : List Member → List ℕ
symbols_of ms = numbered member_symbols 5 ms

abbrev pub first_chunks : List ℕ → List ℕ → List (Option Chunk)
first_chunks names symbols =
    object.chunk (codes "LIB_DIRY") names
    ∷ object.chunk (codes "LIB_TIME") (replicate 8 0)
    ∷ object.chunk (codes "LIB_VSRN") (bytes_of 1 4)
    ∷ object.chunk (codes "OFL_SYMT") symbols
    ∷ object.chunk (codes "OFL_TIME") (replicate 8 0)
    ∷ []

abbrev pub member_chunk : Member → Option Chunk
member_chunk m = object.chunk (codes "LIB_DATA") (object.spelled m.object)

abbrev pub chunks_of : Archive → Chunks
chunks_of a = record { list = first_chunks (directory_of a.members) (symbols_of a.members) ++ map member_chunk a.members }

abbrev pub spelled : Archive → List ℕ
spelled a = file.spelled (chunks_of a)

-- the spelling, where it has fewer than 2^32 bytes
abbrev pub written : Archive → Result (List ℕ) Refusal
written a = file.written (chunks_of a)

-- ---- what the calls answer that write members

abbrev pub IsTooLarge : Refusal → Type 0
IsTooLarge r = r ≡ TooLarge FileBytes 0xFFFFFFFF

-- the member's chunk, or that its object alone has 2^32 bytes or more
abbrev pub SpellsMember : Result (Option Chunk) Fault → Member → Type 0
SpellsMember (Ok c) m = c ≡ member_chunk m
SpellsMember (Err fault.NoMemory) m = Unit {0}
SpellsMember (Err (fault.Refused r)) m = IsTooLarge r × (2 ^ 32 ≤ length (object.spelled m.object))
SpellsMember (Err (fault.ReadFault name)) m = ⊥

-- the members' chunks behind others, or that these chunks alone reach past a file's end
abbrev pub SpellsMembers : Result (Unit {0}) Fault → List (Option Chunk) → List (Option Chunk) → List Member → Type 0
SpellsMembers (Ok u) before after ms = after ≡ before ++ map member_chunk ms
SpellsMembers (Err fault.NoMemory) before after ms = Unit {0}
SpellsMembers (Err (fault.Refused r)) before after ms = IsTooLarge r × ((at : ℕ) → 2 ^ 32 ≤ file.end_from at (map member_chunk ms))
SpellsMembers (Err (fault.ReadFault name)) before after ms = ⊥
