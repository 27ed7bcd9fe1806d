-- What the definition of pools says in plain words.
use Rattle.std.proofs.Common.{◌≡◌, ◌↔◌, ℕ, zero, suc, ◌+◌, ◌*◌, ◌<◌, ◌≤◌, append-nil, append_assoc, List, [], ◌∷◌, ◌++◌, length, map, Bool, true, false, cond, Option, Some, None, refl, sym, ap, ◌∙◌, arith}
use Rattle.std.specs.Prelude.{slice_get}
use Rattle.std.specs.Option.{option_map}
use Rattle.std.proofs.lemmas.List.{length-map, map-append}
use Rattle.std.proofs.lemmas.Option.{slice_get_past, slice_get_within}
use Rattle.asm_model.specs.declared.values.Value.{Value}
use Rattle.asm_pool.specs.Pooled.{Pooled, same_literal, one_later, place_among, entry_at, noted, placed_from, flushed, place_of, literals_of}
use Rattle.asm_pool.specs.Laws.{after, PoolLaw}
use Rattle.asm_pool.proofs.LiteralLemmas.{same_true, same_refl, placed_last}
use Rattle.base_lemmas.proofs.BaseLemmas.{get_before, get_back as get_behind}

-- ---- lists

found_there : (v : Value) (ws : List Value) (i : ℕ) → place_among v ws ≡ Some i → slice_get ws i ≡ Some v
found_there v [] i e = absurd (cc)
found_there v (w ∷ ws) i e = by_test (same_literal v w) refl (place_among v ws) refl e (λ j h. found_there v ws j h)
  where
    by_test : (b : Bool) → same_literal v w ≡ b → (o : Option ℕ) → place_among v ws ≡ o → cond b (Some 0) (one_later o) ≡ Some i
        → ((j : ℕ) → place_among v ws ≡ Some j → slice_get ws j ≡ Some v) → slice_get (w ∷ ws) i ≡ Some v
    by_test true s o p e h = let z : 0 ≡ i = cc in let same : v ≡ w = same_true v w s in rw (← z) (ap Some (sym same))
    by_test false s None p e h = absurd (cc)
    by_test false s (Some j) p e h = let z : suc j ≡ i = cc in rw (← z) (h j p)

still_there : (v : Value) (ws xs : List Value) (i : ℕ) → place_among v ws ≡ Some i → place_among v (ws ++ xs) ≡ Some i
still_there v [] xs i e = absurd (cc)
still_there v (w ∷ ws) xs i e = by_test (same_literal v w) (place_among v ws) (place_among v (ws ++ xs)) e (λ j h. still_there v ws xs j h)
  where
    by_test : (b : Bool) (o p : Option ℕ) → cond b (Some 0) (one_later o) ≡ Some i → ((j : ℕ) → o ≡ Some j → p ≡ Some j)
        → cond b (Some 0) (one_later p) ≡ Some i
    by_test true o p e h = e
    by_test false None p e h = absurd (cc)
    by_test false (Some j) p e h = ap one_later (h j refl) ∙ e

-- ---- a literal that is noted

-- its place among those that wait, which stay before what is new
pub record Notes (v : Value) (p q : Pooled) (n : ℕ) : Type 0 where
  pub placed : q.placed ≡ p.placed
  pub more : List Value
  pub waiting : q.waiting ≡ p.waiting ++ more
  pub place : ℕ
  pub among : place_among v q.waiting ≡ Some place
  pub number : n ≡ length p.placed + place

notes : (v : Value) (p : Pooled) → Notes v p (noted v p).1 (noted v p).0
notes v p = by_place (place_among v p.waiting) refl
  where
    by_place : (o : Option ℕ) → place_among v p.waiting ≡ o → Notes v p (entry_at o v p).1 (entry_at o v p).0
    by_place None e =
        record { placed = refl; more = v ∷ []; waiting = refl; place = length p.waiting; among = placed_last v v p.waiting e (same_refl v); number = refl }
    by_place (Some i) e = record { placed = refl; more = []; waiting = sym (append-nil p.waiting); place = i; among = e; number = refl }

pub record Goes (p q : Pooled) : Type 0 where
  pub placed : q.placed ≡ p.placed
  pub more : List Value
  pub waiting : q.waiting ≡ p.waiting ++ more

goes : (ws : List Value) (p : Pooled) → Goes p (after ws p)
goes [] p = record { placed = refl; more = []; waiting = sym (append-nil p.waiting) }
goes (w ∷ ws) p =
    let n = notes w p in
    let g = goes ws (noted w p).1 in
    record {
      placed = g.placed ∙ n.placed;
      more = n.more ++ g.more;
      waiting =
          g.waiting ∙ ap (λ l. l ++ g.more) n.waiting ∙ append_assoc p.waiting n.more g.more;
    }

-- the literals of pools to which some were noted
longer : (p q : Pooled) (g : Goes p q) → literals_of q ≡ literals_of p ++ g.more
longer p q g = rw (g.placed, g.waiting) (sym (append_assoc (map (λ (e : Value × ℕ). e.0) p.placed) p.waiting g.more))

-- an entry that waits
waits_there : (p : Pooled) (i : ℕ) → slice_get (literals_of p) (length p.placed + i) ≡ slice_get p.waiting i
waits_there p i =
    ap (λ n. slice_get (literals_of p) (n + i)) (sym (length-map p.placed (λ (e : Value × ℕ). e.0)))
    ∙ get_behind (map (λ (e : Value × ℕ). e.0) p.placed) p.waiting i

literal_there : (v : Value) (p : Pooled) → slice_get (literals_of (noted v p).1) (noted v p).0 ≡ Some v
literal_there v p =
    let n = notes v p in
    ap (λ k. slice_get (literals_of (noted v p).1) k) (n.number ∙ ap (λ (l : List (Value × ℕ)). length l + n.place) (sym n.placed))
    ∙ waits_there (noted v p).1 n.place ∙ found_there v (noted v p).1.waiting n.place n.among

again_there : (v : Value) (ws : List Value) (p : Pooled) → (noted v (after ws (noted v p).1)).0 ≡ (noted v p).0
again_there v ws p =
    let n = notes v p in
    let g = goes ws (noted v p).1 in
    let there : place_among v (after ws (noted v p).1).waiting ≡ Some n.place = rw g.waiting (still_there v (noted v p).1.waiting g.more n.place n.among) in
    ap (λ o. (entry_at o v (after ws (noted v p).1)).0) there ∙ ap (λ (l : List (Value × ℕ)). length l + n.place) (g.placed ∙ n.placed) ∙ sym n.number

-- a later literal of one entry is the same
one_literal : (v w : Value) (ws : List Value) (p : Pooled) → (noted w (after ws (noted v p).1)).0 ≡ (noted v p).0 → v ≡ w
one_literal v w ws p e =
    let q = after ws (noted v p).1 in
    let g = goes ws (noted v p).1 in
    let k = goes (w ∷ []) (after ws (noted v p).1) in
    let first = literal_there v p in
    let within = slice_get_within (literals_of (noted v p).1) (noted v p).0 v first in
    let all : literals_of (noted w (after ws (noted v p).1)).1 ≡ literals_of (noted v p).1 ++ (g.more ++ k.more) =
    longer (after ws (noted v p).1) (noted w (after ws (noted v p).1)).1 k ∙ ap (λ l. l ++ k.more) (longer (noted v p).1 (after ws (noted v p).1) g)
    ∙ append_assoc (literals_of (noted v p).1) g.more k.more in
    let second = sym (literal_there w (after ws (noted v p).1)) ∙ ap (λ n. slice_get (literals_of (noted w (after ws (noted v p).1)).1) n) e
    ∙ ap (λ l. slice_get l (noted v p).0) all ∙ get_before (literals_of (noted v p).1) (g.more ++ k.more) (noted v p).0 within in
    cc (first, second)

-- ---- pools

words_there : (vs : List Value) (at i : ℕ) → i < length vs → option_map (λ (e : Value × ℕ). e.1) (slice_get (placed_from at vs) i) ≡ Some (at + 4 * i)
words_there [] at i h = absurd (omega arith)
words_there (v ∷ vs) at zero h = ap Some (omega arith)
words_there (v ∷ vs) at (suc i) h = words_there vs (at + 4) i (omega arith) ∙ ap Some (omega arith)

literals_placed : (vs : List Value) (at : ℕ) → map (λ (e : Value × ℕ). e.0) (placed_from at vs) ≡ vs
literals_placed [] at = refl
literals_placed (v ∷ vs) at = ap (λ t. v ∷ t) (literals_placed vs (at + 4))

kept_there : (at : ℕ) (p : Pooled) → literals_of (flushed at p) ≡ literals_of p
kept_there at p =
    append-nil (map (λ (e : Value × ℕ). e.0) (p.placed ++ placed_from at p.waiting)) ∙ map-append (λ (e : Value × ℕ). e.0) p.placed (placed_from at p.waiting)
    ∙ ap (λ l. map (λ (e : Value × ℕ). e.0) p.placed ++ l) (literals_placed p.waiting at)

new_there : (v : Value) (at : ℕ) (p : Pooled) → (noted v (flushed at p)).0 ≡ length (literals_of p)
new_there v at p =
    let all = ap (λ (l : List Value). length l) (sym (append-nil (map (λ (e : Value × ℕ). e.0) (p.placed ++ placed_from at p.waiting))) ∙ kept_there at p) in
    let behind = length-map (p.placed ++ placed_from at p.waiting) (λ (e : Value × ℕ). e.0) in
    omega arith

none_past : (xs : List (Value × ℕ)) (i : ℕ) → option_map (λ (e : Value × ℕ). e.1) (slice_get xs i) ≡ None → length xs ≤ i
none_past [] i e = omega arith
none_past (x ∷ xs) zero e = absurd (cc)
none_past (x ∷ xs) (suc i) e = let h = none_past xs i e in omega arith

unplaced_there : (entry : ℕ) (p : Pooled) → (place_of entry p ≡ None) ↔ (length p.placed ≤ entry)
unplaced_there entry p =
    (none_past p.placed entry, λ h. ap (λ (o : Option (Value × ℕ)). option_map (λ (e : Value × ℕ). e.1) o) (slice_get_past p.placed entry h))

pub pool_law : PoolLaw
pool_law = record {
  literal = literal_there;
  again = again_there;
  apart = λ v w ws p d e. d (one_literal v w ws p e);
  new = new_there;
  kept = kept_there;
  words = λ at i p h.
      ap (λ (o : Option (Value × ℕ)). option_map (λ (e : Value × ℕ). e.1) o) (get_behind p.placed (placed_from at p.waiting) i) ∙ words_there p.waiting at i h;
  stays = λ entry at p h. ap (λ (o : Option (Value × ℕ)). option_map (λ (e : Value × ℕ). e.1) o) (get_before p.placed (placed_from at p.waiting) entry h);
  unplaced = unplaced_there;
}
