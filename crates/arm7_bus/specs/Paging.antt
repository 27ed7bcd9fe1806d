-- Memory in pages of 4,096 bytes. A table has a frame, or none, for each page; a frame is the place of a page's bytes
-- among the bytes of all frames. A page without a frame holds zeros. This project's.
use Rattle.std.specs.Prelude.{◌≡◌, ℕ, ◌+◌, ◌*◌, ◌/◌, ◌%◌, ◌<◌, ◌≤◌, Bool, false, List, Option, Some, None, is_some, length, map, count_by, slice_index, slice_index_or}

-- the frame of a page
abbrev pub frame_of : List (Option ℕ) → ℕ → Option ℕ
frame_of table page = slice_index_or table page None

-- the byte at a place in a page with this frame
abbrev pub byte_of : List ℕ → ℕ → Option ℕ → ℕ
byte_of bytes at None = 0
byte_of bytes at (Some frame) = slice_index bytes (4096 * frame + at)

-- the byte at each address
unfoldable pub memory_in : List (Option ℕ) → List ℕ → ℕ → ℕ
memory_in table bytes a = byte_of bytes (a % 4096) (frame_of table (a / 4096))

-- whether each page has a frame
abbrev pub used_in : List (Option ℕ) → List Bool
used_in table = map is_some table

-- how many pages are used
abbrev pub used_count : List Bool → ℕ
used_count used = count_by (λ u. u) used

-- the page of an address is used
abbrev pub page_used_in : List Bool → ℕ → Bool
page_used_in used a = slice_index_or used (a / 4096) false

-- the first frames are in use, each by one page, the others hold zeros, and there is room for the bytes of all
pub record IsPaging (table : List (Option ℕ)) (bytes : List ℕ) (used room : ℕ) : Type 0 where
  pub size : length bytes ≡ 4096 * room
  pub fits : used ≤ room
  pub few : room ≤ 65536
  pub counted : count_by is_some table ≡ used
  pub below : (page frame : ℕ) → frame_of table page ≡ Some frame → frame < used
  pub distinct : (p q frame : ℕ) → frame_of table p ≡ Some frame → frame_of table q ≡ Some frame → p ≡ q
  pub clear : (k : ℕ) → 4096 * used ≤ k → slice_index bytes k ≡ 0

-- a table of so many pages, none of which has a frame
pub record IsUnused (table : List (Option ℕ)) (n : ℕ) : Type 0 where
  pub pages : length table ≡ n
  pub none : (page : ℕ) → frame_of table page ≡ None
  pub count : count_by is_some table ≡ 0

-- so many bytes are made, of whole frames, and there is room for so many more without another allocation
pub record AreFrames (made room left : ℕ) : Type 0 where
  pub whole : made % 4096 ≡ 0
  pub rest : left % 4096 ≡ 0
  pub fits : made + left ≤ room
