-- Where the word of a statement's literal stands.
use Rattle.std.proofs.Common.{◌≡◌, ℕ, zero, suc, ◌+◌, ◌<◌, ◌&&◌, ◌||◌, List, [], ◌∷◌, ◌++◌, length, Bool, true, false, cond, Option, Some, None, refl, sym, ap, ◌∙◌, subst, arith}
use Rattle.std.specs.Prelude.{slice_get}
use Rattle.std.specs.List.{list_any}
use Rattle.std.specs.Option.{option_map}
use Rattle.asm_model.specs.declared.values.Value.{Value}
use Rattle.asm_pool.specs.Pooled as pool
use Rattle.asm_pool.specs.Pooled.{Pooled, flushed, place_of}
use Rattle.asm_pool.proofs.LawLemmas.{pool_law}
use Rattle.asm_model.specs.Extents.{Extent, Block, Padding, Loading, Pool}
use Rattle.asm_model.specs.Offsets.{Piece, is_of, same_literal, noted, waiting_behind, waiting, start_in, place_among, word_behind, is_pool, is_pool_of, literal_word}
use Rattle.asm_model.specs.OffsetLaws.{joined, IsLiteral}
use Rattle.asm_model.proofs.OffsetLemmas.{noted_waits, behind_keeps, place_below, is_here}
use Rattle.asm_offsets.specs.Coded.{IsExtent}
use Rattle.asm_offsets.specs.Running.{pools_from, pools_behind}
use Rattle.asm_offsets.specs.Laws.{AllExtents, LiteralsArePlaced}
use Rattle.asm_offsets.proofs.PlaceLemmas.{notes, waits_behind}

-- ---- entries that are placed stay

place_front : (xs ys : List (Value × ℕ)) (i w : ℕ) → option_map (λ (e : Value × ℕ). e.1) (slice_get xs i) ≡ Some w
    → option_map (λ (e : Value × ℕ). e.1) (slice_get (xs ++ ys) i) ≡ Some w
place_front [] ys i w e = absurd (cc)
place_front (y ∷ xs) ys zero w e = e
place_front (y ∷ xs) ys (suc i) w e = place_front xs ys i w e

noted_place : (n w : ℕ) (v : Value) (p : Pooled) → place_of n p ≡ Some w → place_of n (pool.noted v p).1 ≡ Some w
noted_place n w v p e = by_place (pool.place_among v p.waiting)
  where
    by_place : (o : Option ℕ) → place_of n (pool.entry_at o v p).1 ≡ Some w
    by_place None = e
    by_place (Some i) = e

from_place : (n w start : ℕ) (e : Extent) (p : Pooled) → place_of n p ≡ Some w → place_of n (pools_from start e p) ≡ Some w
from_place n w start (Block a b) p h = h
from_place n w start (Padding m b) p h = h
from_place n w start (Loading b v) p h = noted_place n w v p h
from_place n w start Pool p h = place_front p.placed (pool.placed_from start p.waiting) n w h

behind_place : (n w area : ℕ) (before : List Piece) (s : Piece) → place_of n (pools_behind area before) ≡ Some w
    → place_of n (pools_behind area (s ∷ before)) ≡ Some w
behind_place n w area before s h = by_test (is_of area s.area)
  where
    by_test : (b : Bool) → place_of n (cond b (pools_from (start_in area before s.extent) s.extent (pools_behind area before)) (pools_behind area before))
        ≡ Some w
    by_test true = from_place n w (start_in area before s.extent) s.extent (pools_behind area before) h
    by_test false = h

-- the pools of an area that is laid out
abbrev final : ℕ → List Piece → Pooled
final area all = flushed (start_in area all Pool) (pools_behind area all)

final_place : (n w area : ℕ) (before rest : List Piece) → place_of n (pools_behind area before) ≡ Some w → place_of n (final area (joined before rest)) ≡ Some w
final_place n w area before [] h = from_place n w (start_in area before Pool) Pool (pools_behind area before) h
final_place n w area before (s ∷ rest) h = final_place n w area (s ∷ before) rest (behind_place n w area before s h)

-- ---- an entry that waits

-- it has the place of its literal among those that wait
record WaitsIn (n : ℕ) (p : Pooled) (ws : List Value) (v : Value) : Type 0 where
  agree : p.waiting ≡ ws
  number : n ≡ length p.placed + place_among v ws
  there : list_any (same_literal v) ws ≡ true

abbrev Waits : ℕ → ℕ → List Piece → Value → Type 0
Waits n area before v = WaitsIn n (pools_behind area before) (waiting area before) v

-- the next pool places it
flush_place : (n area : ℕ) (before : List Piece) (v : Value) → Waits n area before v → place_of n (final area before) ≡ Some (word_behind area before v)
flush_place n area before v h =
    let below = place_below v (waiting area before) h.there in
    let few : place_among v (waiting area before) < length (pools_behind area before).waiting = rw h.agree (omega arith) in
    ap (λ k. place_of k (final area before)) h.number ∙ pool_law.words (start_in area before Pool) (place_among v (waiting area before))
    (pools_behind area before) few

pool_places : (n area : ℕ) (before : List Piece) (s : Piece) (v : Value) → is_pool_of area s ≡ true → Waits n area before v
    → place_of n (pools_behind area (s ∷ before)) ≡ Some (word_behind area before v)
pool_places n area before s v e h = by_test (is_of area s.area) s.extent e
  where
    by_test : (b : Bool) (x : Extent) → (b && is_pool x) ≡ true
        → place_of n (cond b (pools_from (start_in area before x) x (pools_behind area before)) (pools_behind area before)) ≡ Some (word_behind area before v)
    by_test true Pool k = flush_place n area before v h
    by_test true (Block a b) k = absurd (cc)
    by_test true (Padding m b) k = absurd (cc)
    by_test true (Loading b w) k = absurd (cc)
    by_test false x k = absurd (cc)

place_kept : (v w : Value) (ws : List Value) → list_any (same_literal v) ws ≡ true → place_among v (noted w ws) ≡ place_among v ws
place_kept v w ws h = by_test (list_any (same_literal w) ws)
  where
    front : (us xs : List Value) → list_any (same_literal v) us ≡ true → place_among v (us ++ xs) ≡ place_among v us
    front [] xs k = absurd (cc)
    front (u ∷ us) xs k = by_same (same_literal v u) k (front us xs)
      where
        by_same : (b : Bool) → (b || list_any (same_literal v) us) ≡ true → (list_any (same_literal v) us ≡ true → place_among v (us ++ xs) ≡ place_among v us)
            → cond b 0 (place_among v (us ++ xs) + 1) ≡ cond b 0 (place_among v us + 1)
        by_same true k rest = refl
        by_same false k rest = ap (λ n. n + 1) (rest k)

    by_test : (b : Bool) → place_among v (cond b ws (ws ++ w ∷ [])) ≡ place_among v ws
    by_test true = refl
    by_test false = front ws (w ∷ []) h

-- it waits behind a statement that is no pool of the area
still_waits : (n area : ℕ) (before : List Piece) (s : Piece) (v : Value) → IsExtent s.extent → is_pool_of area s ≡ false → Waits n area before v
    → Waits n area (s ∷ before) v
still_waits n area before s v x e h = record {
  agree = agrees (is_of area s.area);
  number = numbers (is_of area s.area) s.extent x e;
  there = behind_keeps v (is_of area s.area) s.extent (waiting area before) e h.there;
}
  where
    agrees : (b : Bool) → (cond b (pools_from (start_in area before s.extent) s.extent (pools_behind area before)) (pools_behind area before)).waiting
        ≡ cond b (waiting_behind s.extent (waiting area before)) (waiting area before)
    agrees true = waits_behind (start_in area before s.extent) s.extent (pools_behind area before) x ∙ ap (waiting_behind s.extent) h.agree
    agrees false = h.agree

    numbers : (b : Bool) (y : Extent) → IsExtent y → (b && is_pool y) ≡ false
        → n ≡ length (cond b (pools_from (start_in area before y) y (pools_behind area before)) (pools_behind area before)).placed
        + place_among v (cond b (waiting_behind y (waiting area before)) (waiting area before))
    numbers false y z k = h.number
    numbers true (Block a b) z k = h.number
    numbers true (Padding m b) z k = h.number
    numbers true (Loading b w) z k =
        let m = notes w (pools_behind area before) z.literal in
        h.number ∙ ap (λ (l : List (Value × ℕ)). length l + place_among v (waiting area before)) (sym m.placed)
        ∙ ap (λ k. length (pool.noted w (pools_behind area before)).1.placed + k) (sym (place_kept v w (waiting area before) h.there))
    numbers true Pool z k = absurd (cc)

waits_placed : (n area : ℕ) (before rest : List Piece) (v : Value) → AllExtents rest → Waits n area before v
    → place_of n (final area (joined before rest)) ≡ Some (literal_word area before rest v)
waits_placed n area before [] v all h = flush_place n area before v h
waits_placed n area before (s ∷ rest) v all h =
    by_test (is_pool_of area s) refl (λ e. waits_placed n area (s ∷ before) rest v all.1 (still_waits n area before s v all.0 e h))
  where
    by_test : (b : Bool) → is_pool_of area s ≡ b
        → (is_pool_of area s ≡ false → place_of n (final area (joined (s ∷ before) rest)) ≡ Some (literal_word area (s ∷ before) rest v))
        → place_of n (final area (joined (s ∷ before) rest)) ≡ Some (cond b (word_behind area before v) (literal_word area (s ∷ before) rest v))
    by_test true e later = final_place n (word_behind area before v) area (s ∷ before) rest (pool_places n area before s v e h)
    by_test false e later = later e

-- ---- a statement's literal

all_agree : (area : ℕ) (before : List Piece) → AllExtents before → (pools_behind area before).waiting ≡ waiting area before
all_agree area [] all = refl
all_agree area (s ∷ before) all = by_test (is_of area s.area) (all_agree area before all.1)
  where
    by_test : (b : Bool) → (pools_behind area before).waiting ≡ waiting area before
        → (cond b (pools_from (start_in area before s.extent) s.extent (pools_behind area before)) (pools_behind area before)).waiting
        ≡ cond b (waiting_behind s.extent (waiting area before)) (waiting area before)
    by_test true rest = waits_behind (start_in area before s.extent) s.extent (pools_behind area before) all.0 ∙ ap (waiting_behind s.extent) rest
    by_test false rest = rest

noted_is_there : (area : ℕ) (before : List Piece) (v : Value) → (pools_behind area before).waiting ≡ waiting area before → IsLiteral v
    → WaitsIn (pool.noted v (pools_behind area before)).0 (pool.noted v (pools_behind area before)).1 (noted v (waiting area before)) v
noted_is_there area before v a h =
    let m = notes v (pools_behind area before) h in
    record {
      agree = m.waiting ∙ ap (noted v) a;
      number =
          m.number ∙ ap (λ (l : List (Value × ℕ)). length l + place_among v (noted v (pools_behind area before).waiting)) (sym m.placed)
          ∙ ap (λ ws. length (pool.noted v (pools_behind area before)).1.placed + place_among v (noted v ws)) a;
      there = noted_waits v (waiting area before) h;
    }

loaded_waits : (area : ℕ) (before : List Piece) (s : Piece) (b : ℕ) (v : Value) → s.area ≡ Some area → s.extent ≡ Loading b v → AllExtents before → IsLiteral v
    → Waits (pool.noted v (pools_behind area before)).0 area (s ∷ before) v
loaded_waits area before s b v here loads all h =
    subst (λ t. WaitsIn (pool.noted v (pools_behind area before)).0
    (cond t (pools_from (start_in area before s.extent) s.extent (pools_behind area before)) (pools_behind area before))
    (cond t (waiting_behind s.extent (waiting area before)) (waiting area before)) v) (sym (is_here area s.area here))
    (subst (λ e. WaitsIn (pool.noted v (pools_behind area before)).0 (pools_from (start_in area before e) e (pools_behind area before))
    (waiting_behind e (waiting area before)) v) (sym loads)
    (noted_is_there area before v (all_agree area before all) h))

pub literals_are_placed : LiteralsArePlaced
literals_are_placed area before rest s b v here loads all x later =
    let e : IsExtent (Loading b v) = subst IsExtent loads x in
    waits_placed (pool.noted v (pools_behind area before)).0 area (s ∷ before) rest v later (loaded_waits area before s b v here loads all e.literal)
