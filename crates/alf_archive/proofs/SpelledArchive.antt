-- What is spelled is read: the directory, and the members behind one another.
use Rattle.std.proofs.Common.{◌≡◌, ℕ, zero, suc, ◌-◌, ◌+◌, ◌*◌, ◌%◌, ◌^◌, ◌≤◌, ◌<◌, List, [], ◌∷◌, ◌++◌, length, take, drop, map, replicate, Option, Some, None, refl, sym, ap, subst, ◌∙◌, append_assoc, append-nil, arith, slice_get, inr}
use Rattle.std.specs.Prelude.{codes}
use Rattle.std.specs.List.{AllByRecursion}
use Rattle.std.specs.Option.{option_map}
use Rattle.std.proofs.lemmas.List.{length-append, length-map, length-replicate, drop_at, take_at, length-take, length-drop}
use Rattle.std.proofs.lemmas.Option.{slice_get-map}
use Rattle.sdt_word.specs.Bytes.{bytes_of, word_in}
use Rattle.sdt_word.proofs.BytesLemmas.{number_of-bytes_of}
use Rattle.chunk_file.specs.declared.records.Chunk.{Chunk}
use Rattle.chunk_file.specs.declared.records.Span.{Span}
use Rattle.chunk_file.specs.Reading.{EachStands}
use Rattle.chunk_file.specs.Chunks.{bytes_at, chunk_at, raised, end_after, spans_from}
use Rattle.chunk_file.specs.Grammar.{ReadsTable, IsNamed, AreChunks}
use Rattle.chunk_file.proofs.Spelling.{spelled_table, spelled_chunks}
use Rattle.aof_object.specs.Names.{IsText, Lacks}
use Rattle.aof_object.specs.Parts.{named}
use Rattle.aof_object.specs.Spelling as object
use Rattle.aof_object.specs.Validity as validity
use Rattle.aof_object.specs.Grammar as grammar
use Rattle.aof_object.proofs.SpelledObject as law
use Rattle.alf_archive.specs.declared.records.Member.{Member}
use Rattle.alf_archive.specs.declared.records.Archive.{Archive}
use Rattle.alf_archive.specs.declared.entries.Slot.{Slot}
use Rattle.alf_archive.specs.Numbered.{numbered}
use Rattle.alf_archive.specs.Archives.{member_names}
use Rattle.alf_archive.specs.Spelling.{padded, entry, name_and_time, member_entry, directory_of, symbols_of, first_chunks, member_chunk, chunks_of, spelled}
use Rattle.alf_archive.specs.Grammar.{SaysSlot, text_of, SaysMember, SayMembers, ReadsArchive, IsValid, Fits}

-- ---- the places of the chunks

-- a place whose chunk this is
record Place (file : List ℕ) (name bytes : List ℕ) (o : Option (Option Span)) : Type 0 where
  span : Span
  there : o ≡ Some (Some span)
  name_is : span.name ≡ name
  bytes_are : bytes_at file span ≡ bytes

abbrev chunk : List ℕ → List ℕ → Chunk
chunk name bytes = record { name = name; bytes = bytes }

place_in : (file name bytes : List ℕ) (o : Option (Option Span)) → option_map (option_map (chunk_at file)) o ≡ Some (Some (chunk name bytes)) → Place file name bytes o
place_in file name bytes None e = absurd cc
place_in file name bytes (Some None) e = absurd cc
place_in file name bytes (Some (Some s)) e =
    let same : chunk_at file s ≡ chunk name bytes = cc in
    record { span = s; there = refl; name_is = ap (λ (c : Chunk). c.name) same; bytes_are = ap (λ (c : Chunk). c.bytes) same }

place_at : (file : List ℕ) (spans : List (Option Span)) (es : List (Option Chunk)) (i : ℕ) (name bytes : List ℕ) → map (option_map (chunk_at file)) spans ≡ es → slice_get es i ≡ Some (Some (chunk name bytes))
    → Place file name bytes (slice_get spans i)
place_at file spans es i name bytes e at =
    place_in file name bytes (slice_get spans i) (sym (slice_get-map (option_map (chunk_at file)) spans i) ∙ ap (λ (xs : List (Option Chunk)). slice_get xs i) e ∙ at)

-- no member's chunk is the directory
none_named : (at : ℕ) (ms : List Member) → named (codes "LIB_DIRY") (spans_from at (map member_chunk ms)) ≡ []
none_named at [] = refl
none_named at (m ∷ ms) = none_named (end_after at (member_chunk m)) ms

abbrev there_is : Span → Option (Option Span)
there_is s = Some (Some s)

same_span : (s t : Span) → there_is s ≡ there_is t → s ≡ t
same_span s t e = cc

directory_once : (start : ℕ) (ns ss : List ℕ) (ms : List Member) (d : Span) → slice_get (spans_from start (first_chunks ns ss ++ map member_chunk ms)) 0 ≡ Some (Some d)
    → named (codes "LIB_DIRY") (spans_from start (first_chunks ns ss ++ map member_chunk ms)) ≡ d ∷ []
directory_once start ns ss ms d e =
    let place : Span = record { name = codes "LIB_DIRY"; offset = raised start; size = length ns } in
    rw none_named (ap (λ (x : Span). x ∷ []) (same_span place d e))

named_all : (ms : List Member) → AllByRecursion IsNamed (map member_chunk ms)
named_all [] = tt
named_all (m ∷ ms) = (refl, named_all ms)

member_there : (before : List Member) (m : Member) (rest : List Member) → slice_get (before ++ m ∷ rest) (length before) ≡ Some m
member_there [] m rest = refl
member_there (b ∷ bs) m rest = member_there bs m rest

-- ---- an entry

zeros : (k : ℕ) → k < 4 → replicate (4 - k) zero ≡ zero ∷ replicate (3 - k) zero
zeros k lt = let n : 4 - k ≡ suc (3 - k) = omega arith in ap (λ (j : ℕ). replicate j zero) n

ends_in_zero : (name : List ℕ) → (rest : List ℕ) × (name_and_time name ≡ name ++ (0 ∷ rest))
ends_in_zero name =
    let k = length name % 4 in (
      replicate (3 - k) 0 ++ replicate 8 0,
      append_assoc name (replicate (4 - k) 0) (replicate 8 0) ∙ ap (λ (x : List ℕ). name ++ (x ++ replicate 8 0)) (zeros k (omega arith)),
    )

length-text : (name : List ℕ) → length (name_and_time name) % 4 ≡ 0
length-text name =
    let k = 4 - length name % 4 in
    let a = length-append (padded name) (replicate 8 0) in
    let b = length-append name (replicate k 0) in
    let c = length-replicate k zero in
    let d : length (replicate 8 zero) ≡ 8 = length-replicate 8 zero in
    omega (arith, a, b, c, d)

abbrev slot_of : ℕ → List ℕ → Slot
slot_of index text = record { index = index; length = length text + 12; size = length text }

record Entry (dir : List ℕ) (at index : ℕ) (text : List ℕ) : Type 0 where
  says : SaysSlot dir at (slot_of index text)
  text_is : text_of dir at (slot_of index text) ≡ text

length-entry : (index : ℕ) (text : List ℕ) → length (entry index text) ≡ length text + 12
length-entry index text =
    let e : length (entry index text) ≡ 12 + length text = length-append (bytes_of index 4 ++ (bytes_of (length text + 12) 4 ++ bytes_of (length text) 4)) text in
    omega (arith, e)

entry_stands : (dir front tail : List ℕ) (at index : ℕ) (text : List ℕ) → dir ≡ front ++ (entry index text ++ tail) → length front ≡ at → length text % 4 ≡ 0 → index < 2 ^ 32 → length dir < 2 ^ 32 → Entry dir at index text
entry_stands dir front tail at index text parts len words few small =
    let e : List ℕ = entry index text in
    let here : drop at dir ≡ e ++ tail = ap (drop at) parts ∙ drop_at front (e ++ tail) at len in
    let long = length-entry index text in
    let a = length-append front (e ++ tail) in
    let b = length-append e tail in
    let whole : length dir ≡ length (front ++ (e ++ tail)) = ap length parts in
    let fits : at + (length text + 12) ≤ length dir = omega (arith, whole, a, b, long, len) in
    let twelve : List ℕ = bytes_of index 4 ++ (bytes_of (length text + 12) 4 ++ bytes_of (length text) 4) in
    let inner : dir ≡ (front ++ twelve) ++ (text ++ tail) = parts ∙ sym (append_assoc front twelve (text ++ tail)) in
    let at12 : length (front ++ twelve) ≡ at + 12 = let c = length-append front twelve in let d : length twelve ≡ 12 = refl in omega (arith, c, d, len) in
    let there : drop (at + 12) dir ≡ text ++ tail = ap (drop (at + 12)) inner ∙ drop_at (front ++ twelve) (text ++ tail) (at + 12) at12 in
    let word : (k : ℕ) → word_in (drop at dir) k ≡ word_in (e ++ tail) k = λ k. ap (λ (x : List ℕ). word_in x k) here in
    let w0 : word_in (e ++ tail) 0 ≡ index = number_of-bytes_of index 4 few in
    let w4 : word_in (e ++ tail) 4 ≡ length text + 12 = number_of-bytes_of (length text + 12) 4 (omega (arith, fits, small)) in
    let w8 : word_in (e ++ tail) 8 ≡ length text = number_of-bytes_of (length text) 4 (omega (arith, fits, small)) in
    record {
      says = record {
        chunk_index = sym (word 0 ∙ w0);
        entry_length = sym (word 4 ∙ w4);
        text_length = sym (word 8 ∙ w8);
        entry_words = omega (arith, words);
        text_words = words;
        fits = omega arith;
        within = fits;
      };
      text_is = ap (take (length text)) there ∙ take_at text tail (length text) refl;
    }

-- ---- the entries one after the other

record Member_ready (file : List ℕ) (spans : List (Option Span)) (i : ℕ) (m : Member) : Type 0 where
  place : Place file (codes "LIB_DATA") (object.spelled m.object) (slice_get spans (5 + i))

module _ (file : List ℕ) (spans : List (Option Span)) (dir : List ℕ) (members : List Member) (ready : (i : ℕ) (m : Member) → slice_get members i ≡ Some m → Member_ready file spans i m)
    (small : length file < 2 ^ 32) (dir_small : length dir < 2 ^ 32) (few : 5 + length members < 2 ^ 32) where
  stands : (before : List Member) (m : Member) (rest : List Member) (at : ℕ) (text : List ℕ) → members ≡ before ++ m ∷ rest → text ≡ name_and_time m.name → Lacks (member_names before) m.name → IsText m.name → validity.IsValid m.object
      → grammar.Fits m.object → SaysMember file spans (member_names before) (5 + length before) text m
  stands before m rest at text parts is fresh named valid fits =
      let r = ready (length before) m (ap (λ (xs : List Member). slice_get xs (length before)) parts ∙ member_there before m rest) in
      let s = r.place.span in
      let bytes = r.place.bytes_are in
      let t = length-take s.size (drop s.offset file) in
      let d = length-drop s.offset file in
      let size : length (bytes_at file s) ≡ length (object.spelled m.object) = ap length bytes in
      let room : length (object.spelled m.object) < 2 ^ 32 = omega (arith, t, d, size, small) in
      let reads = law.spelling_law m.object valid fits room in
      let z = ends_in_zero m.name in
      record {
        is_text = named;
        name = (z.0, is ∙ z.1);
        fresh = fresh;
        chunk = (s, r.place.there, r.place.name_is, subst (λ (x : List ℕ). grammar.ReadsObject x m.object) (sym bytes) reads);
      }

  say : (before rest : List Member) (front : List ℕ) (at : ℕ) → members ≡ before ++ rest → dir ≡ front ++ numbered member_entry (5 + length before) rest → length front ≡ at
      → EachStands (λ b m. Lacks (member_names b) m.name) before rest → AllByRecursion (λ m. IsText m.name) rest → AllByRecursion (λ m. validity.IsValid m.object) rest → AllByRecursion (λ m. grammar.Fits m.object) rest
      → (ss : List Slot) × SayMembers file spans dir ss at before members
  say before [] front at parts laid len fresh named valid fits =
      let e : length dir ≡ length (front ++ []) = ap length laid in
      let n : length (front ++ []) ≡ length front = ap length (append-nil front) in
      ([], (omega (arith, e, n, len), parts ∙ append-nil before))
  say before (m ∷ ms) front at parts laid len fresh named valid fits =
      let index = 5 + length before in
      let text : List ℕ = name_and_time m.name in
      let tail : List ℕ = numbered member_entry (index + 1) ms in
      let count = length-append before (m ∷ ms) in
      let total : length members ≡ length (before ++ m ∷ ms) = ap length parts in
      let e = entry_stands dir front tail at index text laid len (length-text m.name) (omega (arith, count, total, few)) dir_small in
      let after : List Member = before ++ m ∷ [] in
      let one = length-append before (m ∷ []) in
      let next : index + 1 ≡ 5 + length after = omega (arith, one) in
      let outer : dir ≡ (front ++ entry index text) ++ numbered member_entry (5 + length after) ms =
      laid ∙ sym (append_assoc front (entry index text) tail) ∙ ap (λ (k : ℕ). (front ++ entry index text) ++ numbered member_entry k ms) next in
      let reach : length (front ++ entry index text) ≡ at + (length text + 12) = let a = length-append front (entry index text) in omega (arith, a, length-entry index text, len) in
      let more = say after ms (front ++ entry index text) (at + (length text + 12)) (parts ∙ sym (append_assoc before (m ∷ []) ms)) outer reach fresh.1 named.1 valid.1 fits.1 in
      let member = stands before m ms at (text_of dir at (slot_of index text)) parts e.text_is fresh.0 named.0 valid.0 fits.0 in
      (slot_of index text ∷ more.0, (after, e.says, inr (m, (λ z. absurd (omega (arith, z))), member, refl), more.1))

-- ---- the file

five : (i : ℕ) → 5 + i ≡ suc (suc (suc (suc (suc i))))
five i = omega arith

pub spelling_law : (a : Archive) → IsValid a → Fits a → length (spelled a) < 2 ^ 32 → ReadsArchive (spelled a) a
spelling_law a v f small =
    let file : List ℕ = spelled a in
    let ms = a.members in
    let c = chunks_of a in
    let start = 12 + 16 * length c.list in
    let names : AreChunks c = (refl, (refl, (refl, (refl, (refl, named_all ms))))) in
    let spans : List (Option Span) = spans_from start c.list in
    let table : ReadsTable file spans = spelled_table c names small in
    let chunks = spelled_chunks c names in
    let first = place_at file spans c.list 0 (codes "LIB_DIRY") (directory_of ms) chunks refl in
    let d = first.span in
    let dir : List ℕ = bytes_at file d in
    let t = length-take d.size (drop d.offset file) in
    let o = length-drop d.offset file in
    let dir_small : length dir < 2 ^ 32 = omega (arith, t, o, small) in
    let many : length spans ≡ length c.list = sym (length-map spans (option_map (chunk_at file))) ∙ ap length chunks in
    let members : length (map member_chunk ms) ≡ length ms = length-map ms member_chunk in
    let both = length-append (first_chunks (directory_of ms) (symbols_of ms)) (map member_chunk ms) in
    let count : length c.list ≡ 5 + length (map member_chunk ms) = both in
    let few : 5 + length ms < 2 ^ 32 = omega (arith, count, many, members, table.entries, table.table, small) in
    let ready : (i : ℕ) (m : Member) → slice_get ms i ≡ Some m → Member_ready file spans i m =
    λ i m there. record {
      place = place_at file spans c.list (5 + i) (codes "LIB_DATA") (object.spelled m.object) chunks
          (ap (λ (k : ℕ). slice_get c.list k) (five i) ∙ slice_get-map member_chunk ms i ∙ ap (λ (x : Option Member). option_map member_chunk x) there);
    } in
    let says = say file spans dir ms ready small dir_small few [] ms [] 0 refl first.bytes_are refl v.fresh v.names v.objects f in
    let once : named (codes "LIB_DIRY") spans ≡ d ∷ [] = directory_once start (directory_of ms) (symbols_of ms) ms d first.there in
    (spans, d, says.0, table, once, says.1)
