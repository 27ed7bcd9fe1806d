-- Literals that wait, by both definitions of their places, and what a statement more gives to pools.
use Rattle.std.proofs.Common.{◌≡◌, ℕ, suc, ◌+◌, ◌≤◌, ◌==◌, ◌&&◌, ◌||◌, ◌^◌, length-append, List, [], ◌∷◌, ◌++◌, length, Bool, true, false, cond, Option, Some, None, refl, sym, ap, ◌∙◌, subst, arith}
use Rattle.std.specs.List.{list_any}
use Rattle.std.specs.Str.{bytes_eq}
use Rattle.asm_model.specs.declared.values.Value.{Value}
use Rattle.asm_model.specs.declared.values.Value.TheVariants.{Number, Truth, Words, Place}
use Rattle.asm_model.specs.Forms.{same}
use Rattle.asm_pool.specs.Pooled as pool
use Rattle.asm_pool.specs.Pooled.{Pooled}
use Rattle.asm_model.specs.Extents.{Extent, Block, Padding, Loading, Pool}
use Rattle.asm_model.specs.Offsets.{Piece, same_literal, noted, waiting, waiting_behind, place_among, lacking, alignment_of, start_in, start_from, size_of, is_pool, words_from, pooled, all_pooled}
use Rattle.asm_model.specs.OffsetLaws.{IsLiteral}
use Rattle.asm_model.proofs.OffsetLemmas.{same_itself, more}
use Rattle.asm_offsets.specs.Coded.{IsExtent}
use Rattle.asm_offsets.specs.Running.{pools_from}
use Rattle.asm_offsets.specs.Steps.{IsLow}

-- ---- the same literals

same_texts : (s t : List ℕ) → bytes_eq s t ≡ same s t
same_texts [] [] = refl
same_texts [] (d ∷ ds) = refl
same_texts (c ∷ cs) [] = refl
same_texts (c ∷ cs) (d ∷ ds) = ap (λ b. c == d && b) (same_texts cs ds)

same_tests : (v w : Value) → IsLiteral v → pool.same_literal v w ≡ same_literal v w
same_tests (Number m) (Number n) h = refl
same_tests (Number m) (Truth b) h = refl
same_tests (Number m) (Words w) h = refl
same_tests (Number m) (Place t q) h = refl
same_tests (Place s p) (Number n) h = refl
same_tests (Place s p) (Truth b) h = refl
same_tests (Place s p) (Words w) h = refl
same_tests (Place s p) (Place t q) h = ap (λ b. b && p == q) (same_texts s t)
same_tests (Truth b) w h = absurd h
same_tests (Words v) w h = absurd h

-- ---- places among those that wait

-- the place of a literal, where it waits
abbrev pub found : Value → List Value → Option ℕ
found v ws = cond (list_any (same_literal v) ws) (Some (place_among v ws)) None

places_agree : (v : Value) (ws : List Value) → IsLiteral v → pool.place_among v ws ≡ found v ws
places_agree v [] h = refl
places_agree v (w ∷ ws) h =
    ap (λ b. cond b (Some 0) (pool.one_later (pool.place_among v ws))) (same_tests v w h)
    ∙ ap (λ o. cond (same_literal v w) (Some 0) (pool.one_later o)) (places_agree v ws h)
    ∙ by_tests (same_literal v w) (list_any (same_literal v) ws)
  where
    by_tests : (a b : Bool) → cond a (Some 0) (pool.one_later (cond b (Some (place_among v ws)) None)) ≡ cond (a || b) (Some (cond a 0 (place_among v ws + 1)))
        None
    by_tests true b = refl
    by_tests false true = ap Some (omega arith)
    by_tests false false = refl

-- the place of a literal that is noted last
last_place : (v : Value) (ws : List Value) → IsLiteral v → list_any (same_literal v) ws ≡ false → place_among v (ws ++ v ∷ []) ≡ length ws
last_place v [] h e = ap (λ b. cond b 0 (0 + 1)) (same_itself v h)
last_place v (w ∷ ws) h e = by_test (same_literal v w) e (λ k. last_place v ws h k)
  where
    by_test : (b : Bool) → (b || list_any (same_literal v) ws) ≡ false → (list_any (same_literal v) ws ≡ false → place_among v (ws ++ v ∷ []) ≡ length ws)
        → cond b 0 (place_among v (ws ++ v ∷ []) + 1) ≡ length (w ∷ ws)
    by_test true k rest = absurd (cc)
    by_test false k rest = ap (λ n. n + 1) (rest k) ∙ omega arith

-- ---- a literal that is noted

pub record Notes (v : Value) (p q : Pooled) (n : ℕ) : Type 0 where
  pub placed : q.placed ≡ p.placed
  pub waiting : q.waiting ≡ noted v p.waiting
  pub number : n ≡ length p.placed + place_among v (noted v p.waiting)

pub notes : (v : Value) (p : Pooled) → IsLiteral v → Notes v p (pool.noted v p).1 (pool.noted v p).0
notes v p h =
    subst (λ o. Notes v p (pool.entry_at o v p).1 (pool.entry_at o v p).0) (sym (places_agree v p.waiting h))
    (by_test (list_any (same_literal v) p.waiting) refl)
  where
    by_test : (b : Bool) → list_any (same_literal v) p.waiting ≡ b
        → Notes v p (pool.entry_at (cond b (Some (place_among v p.waiting)) None) v p).1 (pool.entry_at (cond b (Some (place_among v p.waiting)) None) v p).0
    by_test true e = record {
      placed = refl;
      waiting = sym (ap (λ b. cond b p.waiting (p.waiting ++ v ∷ [])) e);
      number = ap (λ ws. length p.placed + place_among v ws) (sym (ap (λ b. cond b p.waiting (p.waiting ++ v ∷ [])) e));
    }
    by_test false e = record {
      placed = refl;
      waiting = sym (ap (λ b. cond b p.waiting (p.waiting ++ v ∷ [])) e);
      number =
          ap (λ n. length p.placed + n) (sym (last_place v p.waiting h e))
          ∙ ap (λ ws. length p.placed + place_among v ws) (sym (ap (λ b. cond b p.waiting (p.waiting ++ v ∷ [])) e));
    }

-- what waits behind a statement
pub waits_behind : (start : ℕ) (e : Extent) (p : Pooled) → IsExtent e → (pools_from start e p).waiting ≡ waiting_behind e p.waiting
waits_behind start (Block a n) p h = refl
waits_behind start (Padding m n) p h = refl
waits_behind start (Loading n v) p h = (notes v p h.literal).waiting
waits_behind start Pool p h = refl

-- ---- the words of pools

words_agree : (at : ℕ) (vs : List Value) → pool.placed_from at vs ≡ words_from at vs
words_agree at [] = refl
words_agree at (v ∷ vs) = ap (λ t. (v, at) ∷ t) (words_agree (at + 4) vs)

-- with those of a pool more
pub pool_placed : (area start : ℕ) (before : List Piece) (p : Pooled) → p.waiting ≡ waiting area before → p.placed ≡ pooled area before
    → start ≡ start_in area before Pool
    → (pool.flushed start p).placed ≡ all_pooled area before
pool_placed area start before p waits placed s =
    rw (waits, placed, s) (ap (λ ws. pooled area before ++ ws) (words_agree (start_in area before Pool) (waiting area before)))

-- behind a statement
pub placed_behind : (area start : ℕ) (e : Extent) (before : List Piece) (p : Pooled) → IsExtent e → p.waiting ≡ waiting area before
    → p.placed ≡ pooled area before
    → start ≡ start_in area before e → (pools_from start e p).placed ≡ cond (is_pool e) (all_pooled area before) (pooled area before)
placed_behind area start (Block a n) before p h waits placed s = placed
placed_behind area start (Padding m n) before p h waits placed s = placed
placed_behind area start (Loading n v) before p h waits placed s = (notes v p h.literal).placed ∙ placed
placed_behind area start Pool before p h waits placed s = pool_placed area start before p waits placed s

-- ---- how many entries there are

abbrev pub count : Pooled → ℕ
count p = length p.placed + length p.waiting

noted_count : (v : Value) (p : Pooled) → count (pool.noted v p).1 ≤ count p + 1
noted_count v p = by_place (pool.place_among v p.waiting)
  where
    by_place : (o : Option ℕ) → count (pool.entry_at o v p).1 ≤ count p + 1
    by_place None = let e = length-append p.waiting (v ∷ []) in let one : length (v ∷ []) ≡ 1 = refl in omega arith
    by_place (Some i) = omega arith

length_from : (at : ℕ) (vs : List Value) → length (pool.placed_from at vs) ≡ length vs
length_from at [] = refl
length_from at (v ∷ vs) = ap suc (length_from (at + 4) vs)

flushed_count : (at : ℕ) (p : Pooled) → count (pool.flushed at p) ≡ count p
flushed_count at p =
    let e = length-append p.placed (pool.placed_from at p.waiting) in
    let f = length_from at p.waiting in
    omega arith

-- each entry takes a byte at least
pub few_behind : (start size : ℕ) (e : Extent) (p : Pooled) → IsExtent e → size ≡ size_of p.waiting start e → count p ≤ start
    → count (pools_from start e p) ≤ start + size
few_behind start size (Block a n) p x s h = omega arith
few_behind start size (Padding m n) p x s h = omega arith
few_behind start size (Loading n v) p x s h =
    let c = noted_count v p in
    let some = x.alignment.some in
    let same : size ≡ n = s in
    omega arith
few_behind start size Pool p x s h = let c = flushed_count start p in omega arith

pub low_behind : (end start size : ℕ) (e : Extent) (p q : Pooled) → IsExtent e → IsLow end p → start ≡ start_from end p.waiting e
    → size ≡ size_of p.waiting start e
    → start + size ≤ 2 ^ 24 → q ≡ pools_from start e p → IsLow (start + size) q
low_behind end start size e p q x low from s fits to =
    let rise = more end (lacking end (alignment_of p.waiting e) 0) in
    let few = low.few in
    record { low = fits; few = subst (λ r. count r ≤ start + size) (sym to) (few_behind start size e p x s (omega arith)) }
