-- Offsets: padding is the least that serves, statements don't overlap, and literals have words.
use Rattle.std.proofs.Common.{◌≡◌, ℕ, suc, ◌+◌, ◌-◌, ◌*◌, ◌%◌, ◌<◌, ◌≤◌, ◌==◌, ◌&&◌, ◌||◌, List, [], ◌∷◌, ◌++◌, length, Bool, true, false, cond, refl, sym, ◌∙◌, ap, subst, arith, eq-eqb, Option, Some}
use Rattle.std.specs.List.{list_any}
use Rattle.std.proofs.Math.Nat.{mod-add-mod, add-mod_left, mod-le, mod-lt}
use Rattle.asm_model.specs.declared.values.Value.{Value}
use Rattle.asm_model.specs.declared.values.Value.TheVariants.{Number, Truth, Words, Place}
use Rattle.asm_model.proofs.WordLemmas.{same_refl}
use Rattle.asm_model.specs.Extents.{Extent, Block, Padding, Loading, Pool}
use Rattle.asm_model.specs.Offsets.{Piece, is_of, lacking, raised, same_literal, noted, waiting_behind, waiting, alignment_of, size_of, start_from, end_from, end_behind, start_in, area_size, place_among, word_behind, is_pool, is_pool_of, literal_word}
use Rattle.asm_model.specs.OffsetLaws.{joined, IsLiteral}

-- ---- padding

pub around : (m k r : ℕ) → r < m → r + (m + k - r) ≡ m + k
around m k r h = omega arith

pub turned : (m k r : ℕ) → r < m → m + k - r ≡ k + (m - r)
turned m k r h = omega arith

pub back : (m d r : ℕ) → r < m → r + (d + (m - r)) ≡ m + d
back m d r h = omega arith

pub swapped : (a b c : ℕ) → a + b + c ≡ a + (b + c)
swapped a b c = omega arith

pub other_way : (a b : ℕ) → a + b ≡ b + a
other_way a b = omega arith

pub plus_nothing : (a : ℕ) → a + 0 ≡ a
plus_nothing a = omega arith

pub again : (n m : ℕ) → n % m % m ≡ n % m
again n m = ap (λ z. z % m) (sym (plus_nothing (n % m))) ∙ mod-add-mod n m 0 ∙ ap (λ z. z % m) (plus_nothing n)

pub reaches : (at m n : ℕ) → 1 ≤ m → (at + lacking at m n) % m ≡ n % m
reaches at m n h =
    ap (λ z. z % m) (other_way at (lacking at m n))
    ∙ mod-add-mod (m + n % m - at % m) m at
    ∙ ap (λ z. z % m) (other_way (m + n % m - at % m) at)
    ∙ sym (mod-add-mod at m (m + n % m - at % m))
    ∙ ap (λ z. z % m) (around m (n % m) (at % m) (mod-lt at h))
    ∙ add-mod_left m (n % m)
    ∙ again n m

pub least : (at m n d : ℕ) → 1 ≤ m → (at + d) % m ≡ n % m → lacking at m n ≤ d
least at m n d h e = subst (λ z. z ≤ d) (sym found) (mod-le d m)
  where
    found : lacking at m n ≡ d % m
    found =
        ap (λ z. z % m) (turned m (n % m) (at % m) (mod-lt at h))
        ∙ ap (λ z. (z + (m - at % m)) % m) (sym e)
        ∙ mod-add-mod (at + d) m (m - at % m)
        ∙ ap (λ z. z % m) (swapped at d (m - at % m))
        ∙ sym (mod-add-mod at m (d + (m - at % m)))
        ∙ ap (λ z. z % m) (back m d (at % m) (mod-lt at h))
        ∙ add-mod_left m d

pub padding_is_least : (at multiple n : ℕ) → 1 ≤ multiple
    → ((at + lacking at multiple n) % multiple ≡ n % multiple)
    × ((d : ℕ) → (at + d) % multiple ≡ n % multiple → lacking at multiple n ≤ d)
padding_is_least at m n h = (reaches at m n h, λ d. least at m n d h)

-- ---- ends

pub more : (a b : ℕ) → a ≤ a + b
more a b = omega arith

pub more_twice : (a b c : ℕ) → a ≤ a + b + c
more_twice a b c = omega arith

pub same_le : (a : ℕ) → a ≤ a
same_le a = omega arith

pub through : (a b c : ℕ) → a ≤ b → b ≤ c → a ≤ c
through a b c h k = omega arith

pub end_rises : (at : ℕ) (literals : List Value) (e : Extent) → at ≤ end_from at literals e
end_rises at literals e = more_twice at (lacking at (alignment_of literals e) 0) (size_of literals (start_from at literals e) e)

pub behind_rises : (area : ℕ) (before : List Piece) (s : Piece) → end_behind area before ≤ end_behind area (s ∷ before)
behind_rises area before s = by_test (is_of area s.area)
  where
    by_test : (b : Bool) → end_behind area before ≤ cond b (end_from (end_behind area before) (waiting area before) s.extent) (end_behind area before)
    by_test true = end_rises (end_behind area before) (waiting area before) s.extent
    by_test false = same_le (end_behind area before)

pub all_rise : (area : ℕ) (later before : List Piece) → end_behind area before ≤ end_behind area (later ++ before)
all_rise area [] before = same_le (end_behind area before)
all_rise area (s ∷ later) before =
    through (end_behind area before) (end_behind area (later ++ before)) (end_behind area (s ∷ later ++ before))
    (all_rise area later before) (behind_rises area (later ++ before) s)

pub joined_rises : (area : ℕ) (before rest : List Piece) → end_behind area before ≤ end_behind area (joined before rest)
joined_rises area before [] = same_le (end_behind area before)
joined_rises area before (s ∷ rest) =
    through (end_behind area before) (end_behind area (s ∷ before)) (end_behind area (joined (s ∷ before) rest))
    (behind_rises area before s) (joined_rises area (s ∷ before) rest)

pub is_here : (area : ℕ) (o : Option ℕ) → o ≡ Some area → is_of area o ≡ true
is_here area o e = ap (is_of area) e ∙ eq-eqb area area refl

pub end_here : (area : ℕ) (before : List Piece) (s : Piece) → s.area ≡ Some area
    → end_from (end_behind area before) (waiting area before) s.extent ≡ end_behind area (s ∷ before)
end_here area before s e =
    sym (ap (λ b. cond b (end_from (end_behind area before) (waiting area before) s.extent) (end_behind area before)) (is_here area s.area e))

abbrev Waits : Value → List Value → Type 0
Waits v ws = list_any (same_literal v) ws ≡ true

pub same_itself : (v : Value) → IsLiteral v → same_literal v v ≡ true
same_itself (Number n) h = eq-eqb n n refl
same_itself (Place s n) h = ap (λ b. b && n == n) (same_refl s) ∙ eq-eqb n n refl
same_itself (Truth b) h = absurd h
same_itself (Words w) h = absurd h

pub waits_front : (v : Value) (ws us : List Value) → Waits v ws → Waits v (ws ++ us)
waits_front v [] us h = absurd (cc)
waits_front v (w ∷ ws) us h = by_test (same_literal v w) (waits_front v ws us) h
  where
    by_test : (b : Bool) → (Waits v ws → Waits v (ws ++ us)) → (b || list_any (same_literal v) ws) ≡ true → (b || list_any (same_literal v) (ws ++ us)) ≡ true
    by_test true rest k = refl
    by_test false rest k = rest k

pub waits_last : (v : Value) (ws : List Value) → same_literal v v ≡ true → Waits v (ws ++ v ∷ [])
waits_last v [] h = ap (λ b. b || false) h
waits_last v (w ∷ ws) h = by_test (same_literal v w) (waits_last v ws h)
  where
    by_test : (b : Bool) → Waits v (ws ++ v ∷ []) → (b || list_any (same_literal v) (ws ++ v ∷ [])) ≡ true
    by_test true rest = refl
    by_test false rest = rest

pub noted_waits : (v : Value) (ws : List Value) → IsLiteral v → Waits v (noted v ws)
noted_waits v ws h = by_test (list_any (same_literal v) ws) refl
  where
    by_test : (b : Bool) → list_any (same_literal v) ws ≡ b → Waits v (cond b ws (ws ++ v ∷ []))
    by_test true e = e
    by_test false e = waits_last v ws (same_itself v h)

pub noted_keeps : (v w : Value) (ws : List Value) → Waits v ws → Waits v (noted w ws)
noted_keeps v w ws h = by_test (list_any (same_literal w) ws)
  where
    by_test : (b : Bool) → Waits v (cond b ws (ws ++ w ∷ []))
    by_test true = h
    by_test false = waits_front v ws (w ∷ []) h

pub behind_keeps : (v : Value) (b : Bool) (e : Extent) (ws : List Value) → (b && is_pool e) ≡ false → Waits v ws → Waits v (cond b (waiting_behind e ws) ws)
behind_keeps v false e ws other h = h
behind_keeps v true (Block a n) ws other h = h
behind_keeps v true (Padding m n) ws other h = h
behind_keeps v true (Loading n w) ws other h = noted_keeps v w ws h
behind_keeps v true Pool ws other h = absurd (cc)

pub place_below : (v : Value) (ws : List Value) → Waits v ws → place_among v ws + 1 ≤ length ws
place_below v [] h = absurd (cc)
place_below v (w ∷ ws) h = by_test (same_literal v w) (place_below v ws) h
  where
    by_test : (b : Bool) → (Waits v ws → place_among v ws + 1 ≤ length ws) → (b || list_any (same_literal v) ws) ≡ true
        → cond b 0 (place_among v ws + 1) + 1 ≤ length (w ∷ ws)
    by_test true rest k = let size : length (w ∷ ws) ≡ suc (length ws) = refl in omega arith
    by_test false rest k = let below = rest k in let size : length (w ∷ ws) ≡ suc (length ws) = refl in omega arith

pub four_on : (a k n : ℕ) → k + 1 ≤ n → a + 4 * k + 4 ≤ a + 4 * n
four_on a k n h = omega arith

-- the word lies before the end of its pool
pub word_below : (area : ℕ) (before : List Piece) (v : Value) → Waits v (waiting area before)
    → word_behind area before v + 4 ≤ end_from (end_behind area before) (waiting area before) Pool
word_below area before v h =
    four_on (start_in area before Pool) (place_among v (waiting area before)) (length (waiting area before)) (place_below v (waiting area before) h)

pub pool_end : (b : Bool) (e : Extent) (at : ℕ) (ws : List Value) → (b && is_pool e) ≡ true → end_from at ws Pool ≡ cond b (end_from at ws e) at
pool_end true Pool at ws h = refl
pool_end true (Block a n) at ws h = absurd (cc)
pool_end true (Padding m n) at ws h = absurd (cc)
pool_end true (Loading n v) at ws h = absurd (cc)
pool_end false e at ws h = absurd (cc)

pub up_to_size : (area : ℕ) (all : List Piece) → end_from (end_behind area all) (waiting area all) Pool ≤ area_size area all
up_to_size area all = more (end_from (end_behind area all) (waiting area all) Pool) (lacking (end_from (end_behind area all) (waiting area all) Pool) 4 0)

pub word_inside : (area : ℕ) (before rest : List Piece) (v : Value) → Waits v (waiting area before)
    → literal_word area before rest v + 4 ≤ area_size area (joined before rest)
word_inside area before [] v h =
    through (word_behind area before v + 4) (end_from (end_behind area before) (waiting area before) Pool) (area_size area before)
    (word_below area before v h) (up_to_size area before)
word_inside area before (s ∷ rest) v h =
    by_test (is_pool_of area s) refl
    (λ e. word_inside area (s ∷ before) rest v (behind_keeps v (is_of area s.area) s.extent (waiting area before) e h))
  where
    by_test : (b : Bool) → is_pool_of area s ≡ b
        → (is_pool_of area s ≡ false → literal_word area (s ∷ before) rest v + 4 ≤ area_size area (joined (s ∷ before) rest))
        → cond b (word_behind area before v) (literal_word area (s ∷ before) rest v) + 4 ≤ area_size area (joined (s ∷ before) rest)
    by_test true e later =
        through (word_behind area before v + 4) (end_behind area (s ∷ before)) (area_size area (joined (s ∷ before) rest))
        (subst (λ z. word_behind area before v + 4 ≤ z) (pool_end (is_of area s.area) s.extent (end_behind area before) (waiting area before) e)
        (word_below area before v h))
        (through (end_behind area (s ∷ before)) (end_behind area (joined (s ∷ before) rest)) (area_size area (joined (s ∷ before) rest))
        (joined_rises area (s ∷ before) rest)
        (through (end_behind area (joined (s ∷ before) rest)) (end_from (end_behind area (joined (s ∷ before) rest)) (waiting area (joined (s ∷ before) rest))
        Pool) (area_size area (joined (s ∷ before) rest))
        (end_rises (end_behind area (joined (s ∷ before) rest)) (waiting area (joined (s ∷ before) rest)) Pool)
        (up_to_size area (joined (s ∷ before) rest))))
    by_test false e later = later e

-- a pool that has literals is aligned
pub aligned_sum : (a k : ℕ) → a % 4 ≡ 0 → (a + 4 * k) % 4 ≡ 0
aligned_sum a k h = omega arith

pub raised_four : (at : ℕ) → raised at 4 % 4 ≡ 0
raised_four at = omega arith

pub pool_aligned : (at : ℕ) (v : Value) (ws : List Value) → Waits v ws → start_from at ws Pool % 4 ≡ 0
pool_aligned at v [] h = absurd (cc)
pool_aligned at v (w ∷ ws) h = raised_four at

pub word_aligned : (area : ℕ) (before rest : List Piece) (v : Value) → Waits v (waiting area before) → literal_word area before rest v % 4 ≡ 0
word_aligned area before [] v h =
    aligned_sum (start_in area before Pool) (place_among v (waiting area before)) (pool_aligned (end_behind area before) v (waiting area before) h)
word_aligned area before (s ∷ rest) v h =
    by_test (is_pool_of area s) refl
    (λ e. word_aligned area (s ∷ before) rest v (behind_keeps v (is_of area s.area) s.extent (waiting area before) e h))
  where
    by_test : (b : Bool) → is_pool_of area s ≡ b → (is_pool_of area s ≡ false → literal_word area (s ∷ before) rest v % 4 ≡ 0)
        → cond b (word_behind area before v) (literal_word area (s ∷ before) rest v) % 4 ≡ 0
    by_test true e later =
        aligned_sum (start_in area before Pool) (place_among v (waiting area before)) (pool_aligned (end_behind area before) v (waiting area before) h)
    by_test false e later = later e

pub loaded_waits : (area : ℕ) (before : List Piece) (s : Piece) (n : ℕ) (v : Value) → s.area ≡ Some area → s.extent ≡ Loading n v → IsLiteral v
    → Waits v (waiting area (s ∷ before))
loaded_waits area before s n v here loads h =
    subst (λ b. Waits v (cond b (waiting_behind s.extent (waiting area before)) (waiting area before))) (sym (is_here area s.area here))
    (subst (λ e. Waits v (waiting_behind e (waiting area before))) (sym loads) (noted_waits v (waiting area before) h))

pub literals_have_words : (area : ℕ) (before rest : List Piece) (s : Piece) (n : ℕ) (v : Value) → s.area ≡ Some area → s.extent ≡ Loading n v → IsLiteral v
    → (literal_word area (s ∷ before) rest v % 4 ≡ 0)
    × (literal_word area (s ∷ before) rest v + 4 ≤ area_size area (joined (s ∷ before) rest))
literals_have_words area before rest s n v here loads h = (
  word_aligned area (s ∷ before) rest v (loaded_waits area before s n v here loads h),
  word_inside area (s ∷ before) rest v (loaded_waits area before s n v here loads h),
)
