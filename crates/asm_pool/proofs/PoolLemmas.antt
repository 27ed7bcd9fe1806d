-- The fields of pools, and the pools that they stand for.
use Rattle.std.proofs.Common.{◌≡◌, ℕ, ◌+◌, ◌≤◌, zero, suc, length-append, length-drop, List, [], ◌∷◌, ◌++◌, length, drop, cond, Option, Some, None, refl, sym, ap, ◌∙◌, arith, map}
use Rattle.std.specs.Prelude.{slice_get, ◌<◌, ◌^◌}
use Rattle.std.proofs.Math.Seq.{drop-length}
use Rattle.std.specs.BTreeMap.{IsEmpty}
use Rattle.std.specs.List.{zip}
use Rattle.std.specs.Option.{option_map}
use Rattle.asm_model.specs.declared.values.Value.{Value}
use Rattle.asm_pool.specs.Pooled.{same_literal, place_among, placed_from, entry_at, noted, flushed}
use Rattle.asm_pool.specs.Index.{Numbers, number_in, numbered, pooled, offsets_from, IsKept}
use Rattle.asm_pool.proofs.LiteralLemmas.{index_more, index_none}

-- ---- placed and waiting

pub length_zip : (vs : List Value) (os : List ℕ) → length os ≤ length vs → length (zip vs os) ≡ length os
length_zip [] [] h = refl
length_zip [] (o ∷ os) h = omega arith
length_zip (v ∷ vs) [] h = refl
length_zip (v ∷ vs) (o ∷ os) h = ap suc (length_zip vs os (omega arith))

pub zip_literals : (vs : List Value) (os : List ℕ) → length os ≤ length vs → map (λ (e : Value × ℕ). e.0) (zip vs os) ++ drop (length os) vs ≡ vs
zip_literals [] [] h = refl
zip_literals [] (o ∷ os) h = absurd (omega arith)
zip_literals (v ∷ vs) [] h = refl
zip_literals (v ∷ vs) (o ∷ os) h = ap (λ t. v ∷ t) (zip_literals vs os (omega arith))

pub zip_offsets : (vs : List Value) (os : List ℕ) → length os ≤ length vs → map (λ (e : Value × ℕ). e.1) (zip vs os) ≡ os
zip_offsets [] [] h = refl
zip_offsets [] (o ∷ os) h = absurd (omega arith)
zip_offsets (v ∷ vs) [] h = refl
zip_offsets (v ∷ vs) (o ∷ os) h = ap (λ t. o ∷ t) (zip_offsets vs os (omega arith))

pub zip_place : (vs : List Value) (os : List ℕ) (i : ℕ) → length os ≤ length vs → option_map (λ (e : Value × ℕ). e.1) (slice_get (zip vs os) i) ≡ slice_get os i
zip_place [] [] i h = refl
zip_place [] (o ∷ os) i h = absurd (omega arith)
zip_place (v ∷ vs) [] i h = refl
zip_place (v ∷ vs) (o ∷ os) zero h = refl
zip_place (v ∷ vs) (o ∷ os) (suc i) h = zip_place vs os i (omega arith)

pub zip_more : (vs : List Value) (os : List ℕ) (v : Value) → length os ≤ length vs → zip (vs ++ v ∷ []) os ≡ zip vs os
zip_more [] [] v h = refl
zip_more [] (o ∷ os) v h = absurd (omega arith)
zip_more (w ∷ vs) [] v h = refl
zip_more (w ∷ vs) (o ∷ os) v h = ap (λ t. (w, o) ∷ t) (zip_more vs os v (omega arith))

pub drop_more : (vs : List Value) (os : List ℕ) (v : Value) → length os ≤ length vs → drop (length os) (vs ++ v ∷ []) ≡ drop (length os) vs ++ v ∷ []
drop_more vs [] v h = refl
drop_more [] (o ∷ os) v h = absurd (omega arith)
drop_more (w ∷ vs) (o ∷ os) v h = drop_more vs os v (omega arith)

-- a pool at an offset
zip_pool : (vs : List Value) (at : ℕ) → zip vs (offsets_from at vs) ≡ placed_from at vs
zip_pool [] at = refl
zip_pool (v ∷ vs) at = ap (λ t. (v, at) ∷ t) (zip_pool vs (at + 4))

pub zip_flush : (vs : List Value) (os : List ℕ) (at : ℕ) → length os ≤ length vs
    → zip vs (os ++ offsets_from at (drop (length os) vs)) ≡ zip vs os ++ placed_from at (drop (length os) vs)
zip_flush [] [] at h = refl
zip_flush (v ∷ vs) [] at h = zip_pool (v ∷ vs) at
zip_flush [] (o ∷ os) at h = absurd (omega arith)
zip_flush (v ∷ vs) (o ∷ os) at h = ap (λ t. (v, o) ∷ t) (zip_flush vs os at (omega arith))

pub length_offsets : (vs : List Value) (at : ℕ) → length (offsets_from at vs) ≡ length vs
length_offsets [] at = refl
length_offsets (v ∷ vs) at = ap suc (length_offsets vs (at + 4))

-- nothing waits behind a pool
pub drop_flush : (vs : List Value) (os : List ℕ) (at : ℕ) → length os ≤ length vs → drop (length (os ++ offsets_from at (drop (length os) vs))) vs ≡ []
drop_flush vs os at h =
    let all : length (os ++ offsets_from at (drop (length os) vs)) ≡ length vs = simp (length-append, length_offsets, length-drop) (omega arith) in
    rw all (drop-length vs)

-- all entries
pub entries_of : (vs : List Value) (os : List ℕ) → length os ≤ length vs → length (zip vs os) + length (drop (length os) vs) ≡ length vs
entries_of vs os within = rw (length_zip vs os within) (simp length-drop (omega arith))

-- ---- a literal that is noted

-- one that waits
pub noted_old : (vs : List Value) (os : List ℕ) (v : Value) (number : ℕ) → length os ≤ length vs
    → Some number ≡ numbered (length os) (place_among v (drop (length os) vs))
    → (number, pooled vs os) ≡ noted v (pooled vs os)
noted_old vs os v number within found = by_place (place_among v (drop (length os) vs)) found
  where
    by_place : (o : Option ℕ) → Some number ≡ numbered (length os) o → (number, pooled vs os) ≡ entry_at o v (pooled vs os)
    by_place None f = absurd (cc)
    by_place (Some i) f =
        let e : number ≡ length os + i = cc in
        ap (λ n. (n, pooled vs os)) (e ∙ ap (λ n. n + i) (sym (length_zip vs os within)))

-- a new one
pub noted_new : (vs : List Value) (os : List ℕ) (v : Value) → length os ≤ length vs → place_among v (drop (length os) vs) ≡ None
    → (length vs, pooled (vs ++ v ∷ []) os) ≡ noted v (pooled vs os)
noted_new vs os v within fresh =
    let number = sym (entries_of vs os within) in
    (λ i. (number i, record { placed = zip_more vs os v within i; waiting = drop_more vs os v within i })) ∙ ap (λ o. entry_at o v (pooled vs os)) (sym fresh)

pub kept_more : (vs : List Value) (os : List ℕ) (m n : Numbers) (v : Value) → IsKept vs os m → length vs < 2 ^ 24 → number_in m v ≡ None
    → ((q : Value) → number_in n q ≡ cond (same_literal v q) (Some (length vs)) (number_in m q)) → IsKept (vs ++ v ∷ []) os n
kept_more vs os m n v kept room fresh more =
    let within = kept.within in
    let all : length os + length (drop (length os) vs) ≡ length vs = simp length-drop (omega arith) in
    let found = index_more (length os) v (drop (length os) vs) m n kept.found fresh (rw all more) in
    record { within = simp length-append (omega arith); few = simp length-append (omega arith); found = rw (drop_more vs os v within) found }

-- ---- a pool

pub flush_is : (vs : List Value) (os : List ℕ) (at : ℕ) → length os ≤ length vs
    → pooled vs (os ++ offsets_from at (drop (length os) vs)) ≡ flushed at (pooled vs os)
flush_is vs os at within = λ i. record { placed = zip_flush vs os at within i; waiting = drop_flush vs os at within i }

pub kept_flush : (vs : List Value) (os : List ℕ) (at : ℕ) (m n : Numbers) → IsKept vs os m → IsEmpty n
    → IsKept vs (os ++ offsets_from at (drop (length os) vs)) n
kept_flush vs os at m n kept empty =
    let within = kept.within in
    let all : length (os ++ offsets_from at (drop (length os) vs)) ≡ length vs = simp (length-append, length_offsets, length-drop) (omega arith) in
    let none = index_none (length (os ++ offsets_from at (drop (length os) vs))) n empty in
    record { within = omega arith; few = kept.few; found = rw (drop_flush vs os at within) none }
