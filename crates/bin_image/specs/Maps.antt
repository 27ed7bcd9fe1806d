-- The map of a scatter image: its text, which maps are valid, which bytes read as a map, and where the first
-- wrong line of other bytes stands. This project's.
use Rattle.std.specs.Prelude.{◌≡◌, ℕ, ◌+◌, ◌%◌, ◌^◌, ◌<◌, ◌≤◌, true, Bool, if◌then◌else◌, List, [], ◌∷◌, ◌++◌, length, codes}
use Rattle.std.specs.List.{AllByRecursion, flat_map, join_with_byte}
use Rattle.std.specs.Fmt.{decimal}
use Rattle.bin_image.specs.declared.records.MapFile.{MapFile}
use Rattle.bin_image.specs.declared.records.MapLoad.{MapLoad}
use Rattle.bin_image.specs.declared.records.MapRegion.{MapRegion}
use Rattle.bin_image.specs.Fields.{lacks, is_name, address}

-- ---- the text

-- fields with one space between
abbrev pub spaced : List (List ℕ) → List ℕ
spaced fields = join_with_byte 32 fields

abbrev pub header : List ℕ
header = codes "armsdt map 1"

abbrev pub load_line : MapLoad → List ℕ
load_line l = spaced (codes "load" ∷ l.name ∷ address l.base ∷ address l.size ∷ l.file ∷ [])

abbrev pub region_line : MapRegion → List ℕ
region_line r = spaced (codes "exec" ∷ r.name ∷ address r.load ∷ address r.base ∷ address r.length ∷ address r.zero ∷ [])

abbrev pub start_line : ℕ → List ℕ
start_line a = spaced (codes "start" ∷ address a ∷ [])

abbrev pub state_word : Bool → List ℕ
state_word thumb = if thumb then codes "THUMB" else codes "ARM"

abbrev pub entry_line : ℕ → Bool → List ℕ
entry_line a thumb = spaced (codes "entry" ∷ address a ∷ state_word thumb ∷ [])

abbrev pub bound_line : ℕ → List ℕ
bound_line n = spaced (codes "bound" ∷ decimal n ∷ [])

abbrev pub end_line : List ℕ
end_line = codes "end"

-- a line with its line feed
abbrev pub ended : List ℕ → List ℕ
ended line = line ++ 10 ∷ []

abbrev pub map_text : MapFile → List ℕ
map_text m =
    ended header
    ++ flat_map (λ l. ended (load_line l)) m.loads
    ++ flat_map (λ r. ended (region_line r)) m.regions
    ++ ended (start_line m.start)
    ++ ended (entry_line m.entry m.thumb)
    ++ ended (bound_line m.bound)
    ++ ended end_line

-- ---- valid maps

-- a name is one or more letters, digits and '_', the range ends at 2^32 or below, the file name is of one line
pub record IsLoad (l : MapLoad) : Type 0 where
  pub named : is_name l.name ≡ true
  pub base_fits : l.base < 2 ^ 32
  pub size_fits : l.size < 2 ^ 32
  pub in_space : l.base + l.size ≤ 2 ^ 32
  pub one_line : lacks 10 l.file ≡ true

-- the execution range, with its zero part, ends at 2^32 or below; nothing judges the load address
pub record IsRegion (r : MapRegion) : Type 0 where
  pub named : is_name r.name ≡ true
  pub load_fits : r.load < 2 ^ 32
  pub base_fits : r.base < 2 ^ 32
  pub length_fits : r.length < 2 ^ 32
  pub zero_fits : r.zero < 2 ^ 32
  pub in_space : r.base + r.length + r.zero ≤ 2 ^ 32

-- the address is one of the load range
abbrev pub InLoad : MapLoad → ℕ → Type 0
InLoad l a = (l.base ≤ a) × (a < l.base + l.size)

-- no address is in both
abbrev pub IsApart : MapLoad → MapLoad → Type 0
IsApart k l = (a : ℕ) → InLoad k a → InLoad l a → ⊥

-- no two of the load ranges meet
abbrev pub AreApart : List MapLoad → Type 0
AreApart [] = Unit {0}
AreApart (l ∷ ls) = AllByRecursion (IsApart l) ls × AreApart ls

pub record IsValid (m : MapFile) : Type 0 where
  pub loads : AllByRecursion IsLoad m.loads
  pub apart : AreApart m.loads
  pub regions : AllByRecursion IsRegion m.regions
  pub start_fits : m.start < 2 ^ 32
  pub start_aligned : m.start % 4 ≡ 0
  pub entry_fits : m.entry < 2 ^ 32
  pub bound_fits : m.bound < 2 ^ 64

-- ---- what is read

abbrev pub ReadsMap : List ℕ → MapFile → Type 0
ReadsMap b m = (b ≡ map_text m) × IsValid m

-- the text begins that of some valid map
pub record Begins (text : List ℕ) : Type 0 where
  pub map : MapFile
  pub rest : List ℕ
  pub valid : IsValid map
  pub begun : map_text map ≡ text ++ rest

-- the text is of lines, each with its line feed
abbrev pub AreLines : List ℕ → Type 0
AreLines text = (lines : List (List ℕ)) × AllByRecursion (λ line. lacks 10 line ≡ true) lines × (text ≡ flat_map ended lines)

-- The bytes read as no map, and their first wrong line begins at the place: the lines before it begin some
-- valid map's text, and with it none does. What no line feed ends, and the file's end, are no line of any map.
pub record IsFirstWrong (b : List ℕ) (at : ℕ) : Type 0 where
  pub before : List ℕ
  pub rest : List ℕ
  pub parts : b ≡ before ++ rest
  pub place : at ≡ length before
  pub lines : AreLines before
  pub right : Begins before
  pub wrong : (line after : List ℕ) → rest ≡ line ++ 10 ∷ after → lacks 10 line ≡ true → Begins (before ++ ended line) → ⊥
  pub no_map : (m : MapFile) → ReadsMap b m → ⊥
