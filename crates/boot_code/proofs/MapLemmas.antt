-- Maps of segments: what is shown, which addresses have a byte, and words.
use Rattle.std.proofs.Common.{◌≡◌, ℕ, ◌+◌, ◌-◌, ◌^◌, ◌<◌, Bool, true, false, ◌||◌, if◌then◌else◌, List, [], ◌∷◌, ◌++◌, length, length-append, refl, ap, ◌∙◌, arith, Option, Some, None}
use Rattle.std.specs.Prelude.{is_some, slice_index}
use Rattle.std.specs.List.{list_any, AllByRecursion}
use Rattle.std.proofs.lemmas.List.{get_or_append_left, get_or-append-add}
use Rattle.sdt_word.specs.Bytes.{bytes_of}
use Rattle.boot_code.specs.Boots.{ByteMap, HoldsWords}
use Rattle.boot_code.proofs.ViewLemmas.{covers-inside}
use Rattle.boot_code.specs.Maps.{Segment, has, map_of, Holds, bytes_of_words, IsOff, MapLaw}

-- ---- segments

pub shown_first : (s : Segment) (after : List Segment) → Holds (map_of (s ∷ after)) s.base s.bytes
shown_first s after k h =
    rw (covers-inside s.base (length s.bytes) (s.base + k) (omega arith) (omega arith))
    (ap (λ (i : ℕ). Some (slice_index s.bytes i)) (omega arith))

pub shown : (before : List Segment) (s : Segment) (after : List Segment) → AllByRecursion (IsOff s) before → Holds (map_of (before ++ s ∷ after)) s.base s.bytes
shown [] s after off k h = shown_first s after k h
shown (t ∷ before) s after off k h = rw (off.0 k h) (shown before s after off.1 k h)

domain_step : (b : Bool) (v : ℕ) (o : Option ℕ) (rest : Bool) → is_some o ≡ rest → is_some (if b then Some v else o) ≡ (b || rest)
domain_step true v o rest e = refl
domain_step false v o rest e = e

pub domain : (ss : List Segment) (x : ℕ) → is_some (map_of ss x) ≡ list_any (has x) ss
domain [] x = refl
domain (s ∷ ss) x = domain_step (has x s) (slice_index s.bytes (x - s.base)) (map_of ss x) (list_any (has x) ss) (domain ss x)

pub nothing : (ss : List Segment) (x : ℕ) → list_any (has x) ss ≡ false → map_of ss x ≡ None
nothing ss x h = go (map_of ss x) (domain ss x ∙ h)
  where
    go : (o : Option ℕ) → is_some o ≡ false → o ≡ None
    go None e = refl
    go (Some v) e = absurd cc

-- ---- bytes

pub front : (m : ByteMap) (a : ℕ) (xs ys : List ℕ) → Holds m a (xs ++ ys) → Holds m a xs
front m a xs ys h k lt = h k (omega (arith, length-append xs ys)) ∙ ap Some (get_or_append_left xs ys 0 k lt)

pub back : (m : ByteMap) (a : ℕ) (xs ys : List ℕ) → Holds m a (xs ++ ys) → Holds m (a + length xs) ys
back m a xs ys h k lt = ap m (omega arith) ∙ h (length xs + k) (omega (arith, length-append xs ys)) ∙ ap Some (get_or-append-add xs ys k 0)

pub words : (m : ByteMap) (a : ℕ) (ws : List ℕ) → AllByRecursion (λ w. w < 2 ^ 32) ws → Holds m a (bytes_of_words ws) → HoldsWords m a ws
words m a [] small h = tt
words m a (w ∷ ws) small h = (
  record { is_word = small.0; each = front m a (bytes_of w 4) (bytes_of_words ws) h },
  words m (a + 4) ws small.1 (back m a (bytes_of w 4) (bytes_of_words ws) h),
)

pub map_law : MapLaw
map_law = record { shown = shown; domain = domain; front = front; back = back; words = words }
