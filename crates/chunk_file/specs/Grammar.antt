-- What a chunk file says, as a relation between its bytes and a record, apart from how it is read
-- (SDT 2.50 Reference Guide, ARM Object Format).
use Rattle.std.specs.Prelude.{◌≡◌, ◌↔◌, ℕ, ◌+◌, ◌*◌, ◌%◌, ◌^◌, ◌<◌, ◌≤◌, List, [], length, take, drop, slice_index, Option, Some, None, Ok}
use Rattle.std.specs.List.{AllByRecursion}
use Rattle.sdt_word.specs.Bytes.{word_in}
use Rattle.chunk_file.specs.declared.records.Chunk.{Chunk}
use Rattle.chunk_file.specs.declared.records.Chunks.{Chunks}
use Rattle.chunk_file.specs.declared.records.Span.{Span}
use Rattle.chunk_file.specs.Reading.{EachStands}
use Rattle.chunk_file.specs.Chunks.{table_end, table_of, chunks_at, chunks_of, file_size, spelled}

-- the entry at an offset names the chunk at the place
pub record IsUsed (b : List ℕ) (at : ℕ) (s : Span) : Type 0 where
  pub name : s.name ≡ take 8 (drop at b)
  pub offset : s.offset ≡ word_in b (at + 8)
  pub size : s.size ≡ word_in b (at + 12)
  pub aligned : s.offset % 4 ≡ 0
  pub after_table : table_end b ≤ s.offset
  pub within : s.offset + s.size ≤ length b

-- an entry whose offset is 0 is unused
abbrev pub IsEntry : List ℕ → ℕ → Option Span → Type 0
IsEntry b at None = word_in b (at + 8) ≡ 0
IsEntry b at (Some s) = IsUsed b at s

-- the chunks of the file stand at these places
pub record ReadsTable (b : List ℕ) (spans : List (Option Span)) : Type 0 where
  pub long : 12 ≤ length b
  pub magic : word_in b 0 ≡ 0xC3CBC6C5
  pub counted : word_in b 8 ≤ word_in b 4
  pub table : table_end b ≤ length b
  pub entries : length spans ≡ word_in b 4
  pub each_entry : EachStands (λ before s. IsEntry b (12 + 16 * length before) s) [] spans

-- the bytes are a chunk file of these chunks
abbrev pub ReadsChunks : List ℕ → Chunks → Type 0
ReadsChunks b c = (spans : List (Option Span)) × ReadsTable b spans × (c ≡ chunks_at b spans)

-- a list of numbers is one of bytes
abbrev pub AreBytes : List ℕ → Type 0
AreBytes b = (i : ℕ) → slice_index b i < 256

-- the chunks have names of eight bytes
abbrev pub IsNamed : Option Chunk → Type 0
IsNamed None = Unit {0}
IsNamed (Some c) = length c.name ≡ 8

abbrev pub AreChunks : Chunks → Type 0
AreChunks c = AllByRecursion IsNamed c.list

-- ---- the laws

abbrev pub TableLaw : Type 0
TableLaw = (b : List ℕ) (spans : List (Option Span)) → (table_of b ≡ Ok spans) ↔ ReadsTable b spans

abbrev pub ChunksLaw : Type 0
ChunksLaw = (b : List ℕ) (c : Chunks) → (chunks_of b ≡ Ok c) ↔ ReadsChunks b c

-- bytes have at most one record
abbrev pub OneRecord : Type 0
OneRecord = (b : List ℕ) (c d : Chunks) → ReadsChunks b c → ReadsChunks b d → c ≡ d

-- how long a spelling is
abbrev pub SizeLaw : Type 0
SizeLaw = (c : Chunks) → AreChunks c → length (spelled c) ≡ file_size c

-- what is spelled is read
abbrev pub SpellingLaw : Type 0
SpellingLaw = (c : Chunks) → AreChunks c → length (spelled c) < 2 ^ 32 → ReadsChunks (spelled c) c
