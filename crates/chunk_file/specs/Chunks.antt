-- Chunk files: the checks in their order with the offset that each tells, and the one spelling
-- (SDT 2.50 Reference Guide, ARM Object Library Format and ARM Object Format; the order of the checks
-- and the spelling's layout are this project's). All words are little-endian.
use Rattle.std.specs.Prelude.{ℕ, ◌+◌, ◌-◌, ◌*◌, ◌/◌, ◌%◌, ◌^◌, nat_lt, ◌==◌, if◌then◌else◌, List, [], ◌∷◌, ◌++◌, length, take, drop, map, replicate, Option, Some, None, Result, Ok, Err}
use Rattle.std.specs.List.{flat_map}
use Rattle.std.specs.Option.{option_map}
use Rattle.sdt_word.specs.Bytes.{bytes_of, word_in}
use Rattle.sdt_fault.specs.declared.kinds.FileKind.TheVariants.{Truncated, Magic, Count, Offset, Size}
use Rattle.sdt_fault.specs.declared.kinds.Quantity.TheVariants.{FileBytes}
use Rattle.sdt_fault.specs.declared.refusal.Refusal.{Refusal}
use Rattle.sdt_fault.specs.declared.refusal.Refusal.TheVariants.{BadChunk, TooLarge}
use Rattle.chunk_file.specs.declared.records.Chunk.{Chunk}
use Rattle.chunk_file.specs.declared.records.Chunks.{Chunks}
use Rattle.chunk_file.specs.declared.records.Span.{Span}
use Rattle.chunk_file.specs.Reading.{◌>>=◌, each}

-- the offset at which the table of chunks ends
abbrev pub table_end : List ℕ → ℕ
table_end b = 12 + 16 * word_in b 4

-- how many entries the table has
unfoldable pub count_of : List ℕ → Result ℕ Refusal
count_of b =
    if nat_lt (length b) 12 then Err (BadChunk [] (length b) Truncated) else (
    if word_in b 0 == 0xC3CBC6C5 then (
    if nat_lt (word_in b 4) (word_in b 8) then Err (BadChunk [] 8 Count) else (
    if nat_lt (length b) (table_end b) then Err (BadChunk [] (length b) Truncated) else Ok (word_in b 4)))
    else Err (BadChunk [] 0 Magic))

-- the entry at an offset, whose row begins there: a name, the chunk's offset, 0 for an unused entry,
-- and its size
unfoldable pub entry_of : ℕ → ℕ → ℕ → List ℕ → Result (Option Span) Refusal
entry_of size table at row =
    if word_in row 8 == 0 then Ok None else (
    if word_in row 8 % 4 == 0 then (
    if nat_lt (word_in row 8) table then Err (BadChunk [] (at + 8) Offset) else (
    if nat_lt size (word_in row 8 + word_in row 12) then Err (BadChunk [] (at + 12) Size) else
    Ok (Some (record { name = take 8 row; offset = word_in row 8; size = word_in row 12 }))))
    else Err (BadChunk [] (at + 8) Offset))

-- the entry behind those before it
abbrev pub next_entry : List ℕ → List (Option Span) → Result (Option Span) Refusal
next_entry b before =
    entry_of (length b) (table_end b) (12 + 16 * length before) (drop (12 + 16 * length before) b)

-- where each chunk stands
unfoldable pub table_of : List ℕ → Result (List (Option Span)) Refusal
table_of b = count_of b >>= λ n. each (next_entry b) n []

-- the bytes of a place, and its chunk
abbrev pub bytes_at : List ℕ → Span → List ℕ
bytes_at b s = take s.size (drop s.offset b)

abbrev pub chunk_at : List ℕ → Span → Chunk
chunk_at b s = record { name = s.name; bytes = bytes_at b s }

abbrev pub chunks_at : List ℕ → List (Option Span) → Chunks
chunks_at b spans = record { list = map (option_map (chunk_at b)) spans }

-- the chunks, or the first check that fails
abbrev pub chunks_of : List ℕ → Result Chunks Refusal
chunks_of b = table_of b >>= λ spans. Ok (chunks_at b spans)

-- ---- the one spelling

-- the next multiple of 4
abbrev pub raised : ℕ → ℕ
raised at = (at + 3) / 4 * 4

-- where an entry's chunk stands behind what ends at an offset, and where it ends
abbrev pub span_at : ℕ → Option Chunk → Option Span
span_at at None = None
span_at at (Some c) = Some (record { name = c.name; offset = raised at; size = length c.bytes })

abbrev pub end_after : ℕ → Option Chunk → ℕ
end_after at None = at
end_after at (Some c) = raised at + length c.bytes

-- where chunks stand one after the other from an offset on, each at a multiple of 4, and where they end
abbrev pub spans_from : ℕ → List (Option Chunk) → List (Option Span)
spans_from at [] = []
spans_from at (e ∷ es) = span_at at e ∷ spans_from (end_after at e) es

abbrev pub end_from : ℕ → List (Option Chunk) → ℕ
end_from at [] = at
end_from at (e ∷ es) = end_from (end_after at e) es

-- an entry's row of 16 bytes
abbrev pub row : Option Span → List ℕ
row None = replicate 16 0
row (Some s) = s.name ++ (bytes_of s.offset 4 ++ bytes_of s.size 4)

-- the chunks' bytes from an offset on, with zero bytes before each up to a multiple of 4
abbrev pub content : ℕ → Option Chunk → List ℕ
content at None = []
content at (Some c) = replicate (raised at - at) 0 ++ c.bytes

abbrev pub contents : ℕ → List (Option Chunk) → List ℕ
contents at [] = []
contents at (e ∷ es) = content at e ++ contents (end_after at e) es

-- the magic word, the number of entries twice, the table, the chunks
abbrev pub head : ℕ → List ℕ
head n = bytes_of 0xC3CBC6C5 4 ++ (bytes_of n 4 ++ bytes_of n 4)

abbrev pub spelled : Chunks → List ℕ
spelled c =
    head (length c.list) ++ (flat_map row (spans_from (12 + 16 * length c.list) c.list) ++ contents (12 + 16 * length c.list) c.list)

-- how many bytes it has
abbrev pub file_size : Chunks → ℕ
file_size c = end_from (12 + 16 * length c.list) c.list

-- the spelling, where it has fewer than 2^32 bytes
abbrev pub written : Chunks → Result (List ℕ) Refusal
written c = if nat_lt (file_size c) (2 ^ 32) then Ok (spelled c) else Err (TooLarge FileBytes 0xFFFFFFFF)
