-- What is spelled is read.
use Rattle.std.proofs.Common.{◌≡◌, ℕ, zero, suc, ◌-◌, ◌+◌, ◌*◌, ◌%◌, ◌^◌, ◌≤◌, ◌<◌, List, [], ◌∷◌, ◌++◌, length, take, drop, map, Option, Some, None, refl, sym, ap, ◌∙◌, append_assoc, arith, replicate}
use Rattle.std.specs.Option.{option_map}
use Rattle.std.specs.List.{flat_map, AllByRecursion}
use Rattle.std.proofs.lemmas.List.{length-append, length-replicate, drop_at, take_at}
use Rattle.sdt_word.specs.Bytes.{bytes_of, word_in}
use Rattle.sdt_word.proofs.BytesLemmas.{number_of-bytes_of}
use Rattle.chunk_file.specs.declared.records.Chunk.{Chunk}
use Rattle.chunk_file.specs.declared.records.Chunks.{Chunks}
use Rattle.chunk_file.specs.declared.records.Span.{Span}
use Rattle.chunk_file.specs.Reading.{EachStands}
use Rattle.chunk_file.specs.Chunks.{table_end, chunk_at, raised, span_at, spans_from, row, content, contents, end_after, end_from, head, spelled}
use Rattle.chunk_file.specs.Grammar.{IsEntry, ReadsTable, ReadsChunks, IsNamed, AreChunks}
use Rattle.chunk_file.proofs.Places.{start-le-end, after-le, length-content, length-contents}
use Rattle.chunk_file.proofs.Words.{word_in-drop, word_in-behind}

length-row : (at : ℕ) (e : Option Chunk) → IsNamed e → length (row (span_at at e)) ≡ 16
length-row at None h = refl
length-row at (Some c) h =
    let a = length-append c.name (bytes_of (raised at) 4 ++ bytes_of (length c.bytes) 4) in
    omega (arith, a, h)

length-rows : (at : ℕ) (es : List (Option Chunk)) → AllByRecursion IsNamed es → length (flat_map row (spans_from at es)) ≡ 16 * length es
length-rows at [] h = refl
length-rows at (e ∷ es) h =
    let rest = length-rows (end_after at e) es h.1 in
    let a = length-append (row (span_at at e)) (flat_map row (spans_from (end_after at e) es)) in
    omega (arith, rest, a, length-row at e h.0)

length-spans : (at : ℕ) (es : List (Option Chunk)) → length (spans_from at es) ≡ length es
length-spans at [] = refl
length-spans at (e ∷ es) = ap suc (length-spans (end_after at e) es)

raised-aligned : (at : ℕ) → raised at % 4 ≡ 0
raised-aligned at = omega arith

-- an entry's row at its place is the entry
row_stands : (file : List ℕ) (at place : ℕ) (e : Option Chunk) (rest : List ℕ) → IsNamed e → drop place file ≡ row (span_at at e) ++ rest
    → table_end file ≤ at → end_after at e ≤ length file → length file < 2 ^ 32 → IsEntry file place (span_at at e)
row_stands file at place None rest named here after within small = sym (word_in-drop file place 8) ∙ ap (λ (x : List ℕ). word_in x 8) here
row_stands file at place (Some c) rest named here after within small =
    let tail : List ℕ = bytes_of (raised at) 4 ++ (bytes_of (length c.bytes) 4 ++ rest) in
    let parts : drop place file ≡ c.name ++ tail =
    here ∙ append_assoc c.name (bytes_of (raised at) 4 ++ bytes_of (length c.bytes) 4) rest in
    let word : (k : ℕ) → word_in file (place + (8 + k)) ≡ word_in tail k = λ k. sym (word_in-drop file place (8 + k)) ∙ ap (λ (x : List ℕ). word_in x (8 + k)) parts ∙ word_in-behind c.name tail 8 k named in
    let o : raised at < 2 ^ 32 = omega arith in
    let s : length c.bytes < 2 ^ 32 = omega arith in
    record {
      name = sym (ap (take 8) parts ∙ take_at c.name tail 8 named);
      offset = sym (word 0 ∙ number_of-bytes_of (raised at) 4 o);
      size = sym (word 4 ∙ number_of-bytes_of (length c.bytes) 4 s);
      aligned = raised-aligned at;
      after_table = omega arith;
      within = within;
    }

rows_stand : (file : List ℕ) (before : List (Option Span)) (front tail : List ℕ) (at : ℕ) (es : List (Option Chunk)) → AllByRecursion IsNamed es
    → file ≡ front ++ (flat_map row (spans_from at es) ++ tail) → length front ≡ 12 + 16 * length before
    → table_end file ≤ at → end_from at es ≤ length file → length file < 2 ^ 32
    → EachStands (λ before s. IsEntry file (12 + 16 * length before) s) before (spans_from at es)
rows_stand file before front tail at [] named parts len after within small = tt
rows_stand file before front tail at (e ∷ es) named parts len after within small =
    let mine : List ℕ = row (span_at at e) in
    let others : List ℕ = flat_map row (spans_from (end_after at e) es) in
    let inner : file ≡ front ++ (mine ++ (others ++ tail)) = parts ∙ ap (λ (x : List ℕ). front ++ x) (append_assoc mine others tail) in
    let here : drop (12 + 16 * length before) file ≡ mine ++ (others ++ tail) = ap (drop (12 + 16 * length before)) inner ∙ drop_at front (mine ++ (others ++ tail)) (12 + 16 * length before) len in
    let mid : end_after at e ≤ end_from (end_after at e) es = start-le-end (end_after at e) es in
    let fits : end_after at e ≤ length file = omega (arith, mid, within) in
    let up = after-le at e in
    let outer : file ≡ (front ++ mine) ++ (others ++ tail) = inner ∙ sym (append_assoc front mine (others ++ tail)) in
    let one = length-append front mine in
    let two = length-append before (span_at at e ∷ []) in (
      row_stands file at (12 + 16 * length before) e (others ++ tail) named.0 here after fits small,
      rows_stand file (before ++ span_at at e ∷ []) (front ++ mine) tail (end_after at e) es named.1 outer (omega (arith, one, two, length-row at e named.0, len)) (omega (arith, up, after)) within small,
    )

-- the bytes at a chunk's place are the chunk's
chunk_stands : (file front rest : List ℕ) (at : ℕ) (e : Option Chunk) → file ≡ front ++ (content at e ++ rest) → length front ≡ at
    → option_map (chunk_at file) (span_at at e) ≡ e
chunk_stands file front rest at None parts len = refl
chunk_stands file front rest at (Some c) parts len =
    let zeros : List ℕ = replicate (raised at - at) 0 in
    let inner : content at (Some c) ++ rest ≡ zeros ++ (c.bytes ++ rest) = append_assoc zeros c.bytes rest in
    let outer : file ≡ (front ++ zeros) ++ (c.bytes ++ rest) = parts ∙ ap (λ (x : List ℕ). front ++ x) inner ∙ sym (append_assoc front zeros (c.bytes ++ rest)) in
    let before : length (front ++ zeros) ≡ raised at = omega (arith, length-append front zeros, length-replicate (raised at - at) zero, len) in
    let there : drop (raised at) file ≡ c.bytes ++ rest = ap (drop (raised at)) outer ∙ drop_at (front ++ zeros) (c.bytes ++ rest) (raised at) before in
    let same : take (length c.bytes) (drop (raised at) file) ≡ c.bytes = ap (take (length c.bytes)) there ∙ take_at c.bytes rest (length c.bytes) refl in
    ap (λ (bytes : List ℕ). Some (record { name = c.name; bytes = bytes })) same

chunks_stand : (file front : List ℕ) (at : ℕ) (es : List (Option Chunk)) → file ≡ front ++ contents at es → length front ≡ at
    → map (option_map (chunk_at file)) (spans_from at es) ≡ es
chunks_stand file front at [] parts len = refl
chunks_stand file front at (e ∷ es) parts len =
    let mine : List ℕ = content at e in
    let first = chunk_stands file front (contents (end_after at e) es) at e parts len in
    let outer : file ≡ (front ++ mine) ++ contents (end_after at e) es = parts ∙ sym (append_assoc front mine (contents (end_after at e) es)) in
    let behind : length (front ++ mine) ≡ end_after at e = omega (arith, length-append front mine, length-content at e, len) in
    let rest = chunks_stand file (front ++ mine) (end_after at e) es outer behind in
    rw (first, rest) refl

abbrev made : List (Option Chunk) → Chunks
made es = record { list = es }

-- how long a spelling is
pub length-spelled : (c : Chunks) → AreChunks c → length (spelled c) ≡ end_from (12 + 16 * length c.list) c.list
length-spelled c named =
    let n = length c.list in
    let rows : List ℕ = flat_map row (spans_from (12 + 16 * n) c.list) in
    let body : List ℕ = contents (12 + 16 * n) c.list in
    let a = length-append (head n) (rows ++ body) in
    let b = length-append rows body in
    let h : length (head n) ≡ 12 = refl in
    omega (arith, a, b, h, length-rows (12 + 16 * n) c.list named, length-contents (12 + 16 * n) c.list)

-- the table of a spelling, and the chunks at its places
pub spelled_table : (c : Chunks) → AreChunks c → length (spelled c) < 2 ^ 32 → ReadsTable (spelled c) (spans_from (12 + 16 * length c.list) c.list)
spelled_table c named small =
    let n = length c.list in
    let t = 12 + 16 * n in
    let file : List ℕ = spelled c in
    let body : List ℕ = contents t c.list in
    let size = length-spelled c named in
    let room : t ≤ end_from t c.list = start-le-end t c.list in
    let few : n < 2 ^ 32 = omega (arith, size, room, small) in
    let max : word_in file 4 ≡ n = number_of-bytes_of n 4 few in
    let num : word_in file 8 ≡ n = number_of-bytes_of n 4 few in
    let ends : table_end file ≡ t = ap (λ (k : ℕ). 12 + 16 * k) max in
    let stand = rows_stand file [] (head n) body t c.list named refl refl (omega (arith, ends)) (omega (arith, size)) small in
    record {
      long = omega (arith, size, room);
      magic = refl;
      counted = omega (arith, max, num);
      table = omega (arith, ends, size, room);
      entries = length-spans t c.list ∙ sym max;
      each_entry = stand;
    }

pub spelled_chunks : (c : Chunks) → AreChunks c → map (option_map (chunk_at (spelled c))) (spans_from (12 + 16 * length c.list) c.list) ≡ c.list
spelled_chunks c named =
    let n = length c.list in
    let t = 12 + 16 * n in
    let rows : List ℕ = flat_map row (spans_from t c.list) in
    let body : List ℕ = contents t c.list in
    let len : length (head n ++ rows) ≡ t = omega (arith, length-append (head n) rows, length-rows t c.list named) in
    chunks_stand (spelled c) (head n ++ rows) t c.list (sym (append_assoc (head n) rows body)) len

pub spelling_law : (c : Chunks) → AreChunks c → length (spelled c) < 2 ^ 32 → ReadsChunks (spelled c) c
spelling_law c named small =
    (spans_from (12 + 16 * length c.list) c.list, spelled_table c named small, ap (λ (es : List (Option Chunk)). made es) (sym (spelled_chunks c named)))
