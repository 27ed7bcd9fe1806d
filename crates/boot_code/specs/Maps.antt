-- Maps from addresses to bytes, made of segments: of several that have an address the first counts, and
-- where none has it the map has nothing. This project's.
use Rattle.std.specs.Prelude.{◌≡◌, ℕ, ◌+◌, ◌-◌, ◌^◌, ◌<◌, Bool, false, if◌then◌else◌, List, [], ◌∷◌, ◌++◌, length, is_some, slice_index, Some, None}
use Rattle.std.specs.List.{list_any, flat_map, AllByRecursion}
use Rattle.sdt_word.specs.Bytes.{bytes_of}
use Rattle.boot_code.specs.Boots.{ByteMap, HoldsWords, covers}

-- bytes from an address on
pub record Segment : Type 0 where
  pub base : ℕ
  pub bytes : List ℕ

abbrev pub has : ℕ → Segment → Bool
has x s = covers s.base (length s.bytes) x

abbrev pub map_of : List Segment → ByteMap
map_of [] x = None
map_of (s ∷ ss) x = if has x s then Some (slice_index s.bytes (x - s.base)) else map_of ss x

-- the map has these bytes from an address on
abbrev pub Holds : ByteMap → ℕ → List ℕ → Type 0
Holds m a bytes = (k : ℕ) → k < length bytes → m (a + k) ≡ Some (slice_index bytes k)

-- words as bytes
abbrev pub bytes_of_words : List ℕ → List ℕ
bytes_of_words words = flat_map (λ w. bytes_of w 4) words

-- another segment has none of a segment's addresses
abbrev pub IsOff : Segment → Segment → Type 0
IsOff s other = (k : ℕ) → k < length s.bytes → has (s.base + k) other ≡ false

pub record MapLaw : Type 0 where
  -- a segment that none before it meets is shown
  pub shown : (before : List Segment) (s : Segment) (after : List Segment) → AllByRecursion (IsOff s) before → Holds (map_of (before ++ s ∷ after)) s.base s.bytes
  -- the map has a byte exactly where a segment has the address
  pub domain : (ss : List Segment) (x : ℕ) → is_some (map_of ss x) ≡ list_any (has x) ss
  -- bytes one behind the other
  pub front : (m : ByteMap) (a : ℕ) (xs ys : List ℕ) → Holds m a (xs ++ ys) → Holds m a xs
  pub back : (m : ByteMap) (a : ℕ) (xs ys : List ℕ) → Holds m a (xs ++ ys) → Holds m (a + length xs) ys
  -- bytes of words are words
  pub words : (m : ByteMap) (a : ℕ) (ws : List ℕ) → AllByRecursion (λ w. w < 2 ^ 32) ws → Holds m a (bytes_of_words ws) → HoldsWords m a ws
