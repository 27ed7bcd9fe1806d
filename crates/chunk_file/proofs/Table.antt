-- The law of the table, and of the chunks: what reading gives is what the bytes say.
use Rattle.std.proofs.Common.{◌≡◌, ℕ, ◌+◌, ◌*◌, ◌%◌, ◌≤◌, ◌<◌, Bool, true, false, cond, eqb, ltb, List, [], length, take, drop, Option, Some, None, Result, Ok, Err, refl, sym, ap, subst, ◌∙◌, arith}
use Rattle.std.specs.Prelude.{◌↔◌}
use Rattle.std.proofs.lemmas.Bool.{eqb-true, false_from_ne_true}
use Rattle.sdt_word.specs.Bytes.{word_in}
use Rattle.sdt_fault.specs.declared.refusal.Refusal.{Refusal}
use Rattle.chunk_file.specs.declared.records.Chunks.{Chunks}
use Rattle.chunk_file.specs.declared.records.Span.{Span}
use Rattle.chunk_file.specs.Reading.{each}
use Rattle.chunk_file.specs.Chunks.{table_end, count_of, entry_of, next_entry, table_of, chunks_at, chunks_of}
use Rattle.chunk_file.specs.Grammar.{IsEntry, ReadsTable, ReadsChunks}
use Rattle.chunk_file.proofs.Loops.{bind_ok, each_law, Agrees}
use Rattle.chunk_file.proofs.Words.{word_in-drop}
use Rattle.chunk_file.proofs.Guards.{not_less, equal, past_less, past_equal}

-- ---- the header

record Counted (b : List ℕ) (n : ℕ) : Type 0 where
  long : 12 ≤ length b
  magic : word_in b 0 ≡ 0xC3CBC6C5
  counted : word_in b 8 ≤ word_in b 4
  table : table_end b ≤ length b
  count : word_in b 4 ≡ n

count_takes : (b : List ℕ) (n : ℕ) → count_of b ≡ Ok n → Counted b n
unfolding count_of
count_takes b n e =
    let g0 = not_less (length b) 12 _ _ n e in
    let g1 = equal (word_in b 0) 0xC3CBC6C5 _ _ n g0.1 in
    let g2 = not_less (word_in b 4) (word_in b 8) _ _ n g1.1 in
    let g3 = not_less (length b) (table_end b) _ _ n g2.1 in
    let same : word_in b 4 ≡ n = cc (g3.1) in
    record { long = g0.0; magic = g1.0; counted = g2.0; table = g3.0; count = same }

count_again : (b : List ℕ) (n : ℕ) → Counted b n → count_of b ≡ Ok n
unfolding count_of
count_again b n h =
    past_less (length b) 12 _ _ h.long ∙ past_equal (word_in b 0) 0xC3CBC6C5 _ _ h.magic ∙ past_less (word_in b 4) (word_in b 8) _ _ h.counted
    ∙ past_less (length b) (table_end b) _ _ h.table ∙ ap (λ (x : ℕ). Ok x) h.count

-- ---- an entry

record RowIs (size table : ℕ) (row : List ℕ) (s : Span) : Type 0 where
  name : s.name ≡ take 8 row
  offset : s.offset ≡ word_in row 8
  bytes : s.size ≡ word_in row 12
  aligned : s.offset % 4 ≡ 0
  after_table : table ≤ s.offset
  within : s.offset + s.size ≤ size

-- what an entry's row says
abbrev EntryIs : ℕ → ℕ → List ℕ → Option Span → Type 0
EntryIs size table row None = word_in row 8 ≡ 0
EntryIs size table row (Some s) = RowIs size table row s

-- a used entry passed the first test
fails_none : (b : Bool) (y : Result (Option Span) Refusal) (s : Span) → cond b (Ok None) y ≡ Ok (Some s) → y ≡ Ok (Some s)
fails_none true y s e = absurd cc
fails_none false y s e = e

abbrev done : Option Span → Result (Option Span) Refusal
done e = Ok e

-- a span is its three fields
span_is : (s : Span) (name : List ℕ) (offset size : ℕ) → s.name ≡ name → s.offset ≡ offset → s.size ≡ size → record { name = name; offset = offset; size = size } ≡ s
span_is s name offset size n o z = rw (← n, ← o, ← z) refl

abbrev read : Chunks → Result Chunks Refusal
read c = Ok c

chunks_is : (c d : Chunks) → read c ≡ read d → c ≡ d
chunks_is c d e = cc

some_is : (a b : Span) → done (Some a) ≡ done (Some b) → a ≡ b
some_is a b e = cc

some_takes : (size table at : ℕ) (row : List ℕ) (s : Span) → entry_of size table at row ≡ Ok (Some s) → RowIs size table row s
unfolding entry_of
some_takes size table at row s e =
    let g0 = fails_none (eqb (word_in row 8) 0) _ s e in
    let g1 = equal (word_in row 8 % 4) 0 _ _ (Some s) g0 in
    let g2 = not_less (word_in row 8) table _ _ (Some s) g1.1 in
    let g3 = not_less size (word_in row 8 + word_in row 12) _ _ (Some s) g2.1 in
    let read : Span = record { name = take 8 row; offset = word_in row 8; size = word_in row 12 } in
    let whole : RowIs size table row read = record { name = refl; offset = refl; bytes = refl; aligned = g1.0; after_table = g2.0; within = g3.0 } in
    subst (λ (x : Span). RowIs size table row x) (some_is read s g3.1) whole

no_none : (b1 b2 b3 : Bool) (d1 d2 d3 : Refusal) (s : Span) → cond b1 (cond b2 (Err d1) (cond b3 (Err d2) (done (Some s)))) (Err d3) ≡ done None → ⊥
no_none true true b3 d1 d2 d3 s e = cc
no_none true false true d1 d2 d3 s e = cc
no_none true false false d1 d2 d3 s e = cc
no_none false b2 b3 d1 d2 d3 s e = cc

none_test : (b : Bool) (y : Result (Option Span) Refusal) → cond b (done None) y ≡ done None → (y ≡ done None → ⊥) → b ≡ true
none_test true y e never = refl
none_test false y e never = absurd (never e)

none_takes : (size table at : ℕ) (row : List ℕ) → entry_of size table at row ≡ Ok None → word_in row 8 ≡ 0
unfolding entry_of
none_takes size table at row e =
    eqb-true _ _ (none_test (eqb (word_in row 8) 0) _ e
    (no_none (eqb (word_in row 8 % 4) 0) (ltb (word_in row 8) table) (ltb size (word_in row 8 + word_in row 12)) _ _ _ _))

entry_takes : (size table at : ℕ) (row : List ℕ) (e : Option Span) → entry_of size table at row ≡ Ok e → EntryIs size table row e
entry_takes size table at row None h = none_takes size table at row h
entry_takes size table at row (Some s) h = some_takes size table at row s h

past_first : (b : Bool) (y : Result (Option Span) Refusal) → b ≡ false → cond b (done None) y ≡ y
past_first b y h = rw h refl

entry_again : (size table at : ℕ) (row : List ℕ) (e : Option Span) → 0 < table → EntryIs size table row e → entry_of size table at row ≡ Ok e
unfolding entry_of
entry_again size table at row None pos h = past_equal (word_in row 8) 0 _ _ h
entry_again size table at row (Some s) pos h =
    let offset = h.offset in
    let bytes = h.bytes in
    let aligned = h.aligned in
    let after = h.after_table in
    let within = h.within in
    let used : eqb (word_in row 8) 0 ≡ false = false_from_ne_true _ (λ t. let z = eqb-true _ _ t in omega arith) in
    let same : record { name = take 8 row; offset = word_in row 8; size = word_in row 12 } ≡ s = span_is s (take 8 row) (word_in row 8) (word_in row 12) h.name offset bytes in
    past_first (eqb (word_in row 8) 0) _ used ∙ past_equal (word_in row 8 % 4) 0 _ _ (omega arith)
    ∙ past_less (word_in row 8) table _ _ (omega arith) ∙ past_less size (word_in row 8 + word_in row 12) _ _ (omega arith)
    ∙ ap (λ (x : Span). done (Some x)) same

-- ---- the table

from_row : (b : List ℕ) (at : ℕ) (e : Option Span) → EntryIs (length b) (table_end b) (drop at b) e → IsEntry b at e
from_row b at None h = sym (word_in-drop b at 8) ∙ h
from_row b at (Some s) h = record { name = h.name; offset = h.offset ∙ word_in-drop b at 8; size = h.bytes ∙ word_in-drop b at 12; aligned = h.aligned; after_table = h.after_table; within = h.within }

to_row : (b : List ℕ) (at : ℕ) (e : Option Span) → IsEntry b at e → EntryIs (length b) (table_end b) (drop at b) e
to_row b at None h = word_in-drop b at 8 ∙ h
to_row b at (Some s) h = record { name = h.name; offset = h.offset ∙ sym (word_in-drop b at 8); bytes = h.size ∙ sym (word_in-drop b at 12); aligned = h.aligned; after_table = h.after_table; within = h.within }

agrees : (b : List ℕ) → Agrees (next_entry b) (λ before e. IsEntry b (12 + 16 * length before) e)
agrees b before e =
    let at = 12 + 16 * length before in (
      λ h. from_row b at e (entry_takes (length b) (table_end b) at (drop at b) e h),
      λ h. entry_again (length b) (table_end b) at (drop at b) e (omega arith) (to_row b at e h),
    )

pub table_law : (b : List ℕ) (spans : List (Option Span)) → (table_of b ≡ Ok spans) ↔ ReadsTable b spans
unfolding table_of
table_law b spans = (
  λ e. let g = bind_ok (count_of b) (λ n. each (next_entry b) n []) spans e in
      let head = count_takes b g.0 g.1 in
      let items = (each_law (next_entry b) _ (agrees b) g.0 spans).0 g.2 in
      record { long = head.long; magic = head.magic; counted = head.counted; table = head.table; entries = items.0 ∙ sym head.count; each_entry = items.1 },
  λ h. let n : count_of b ≡ Ok (word_in b 4) = count_again b (word_in b 4) (record { long = h.long; magic = h.magic; counted = h.counted; table = h.table; count = refl }) in
      rw n ((each_law (next_entry b) _ (agrees b) (word_in b 4) spans).1 (h.entries, h.each_entry)),
)

pub chunks_law : (b : List ℕ) (c : Chunks) → (chunks_of b ≡ Ok c) ↔ ReadsChunks b c
chunks_law b c = (
  λ e. let g = bind_ok (table_of b) (λ spans. Ok (chunks_at b spans)) c e in
      (g.0, (table_law b g.0).0 g.1, sym (chunks_is (chunks_at b g.0) c g.2)),
  λ h. let t : table_of b ≡ Ok h.0 = (table_law b h.0).1 h.1 in rw t (ap (λ (x : Chunks). read x) (sym h.2)),
)

pub one_record : (b : List ℕ) (c d : Chunks) → ReadsChunks b c → ReadsChunks b d → c ≡ d
one_record b c d hc hd = chunks_is c d (sym ((chunks_law b c).1 hc) ∙ (chunks_law b d).1 hd)
