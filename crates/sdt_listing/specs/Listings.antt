-- The listing of an object and of a library. Attributes, offsets, words, sizes and values are eight upper-case
-- hexadecimal digits, a number of relocations is decimal, and each line ends with a line feed. This project's.
use Rattle.std.specs.Prelude.{ℕ, zero, suc, ◌+◌, ◌*◌, ◌/◌, ◌==◌, if◌then◌else◌, List, [], ◌∷◌, ◌++◌, length, take, drop, slice_get, Option, Some, None, codes}
use Rattle.std.specs.List.{flat_map, join_with_byte}
use Rattle.std.specs.Option.{option_map_or}
use Rattle.std.specs.Fmt.{decimal}
use Rattle.hex.specs.Hex.{encode_lower}
use Rattle.sdt_word.specs.Bytes.{half_in, word_in}
use Rattle.sdt_word.specs.Numbers.{bit}
use Rattle.aof_object.specs.declared.records.Area.{Area}
use Rattle.aof_object.specs.declared.records.Entry.{Entry}
use Rattle.aof_object.specs.declared.records.Object.{Object}
use Rattle.aof_object.specs.declared.records.Reloc.{Reloc}
use Rattle.aof_object.specs.declared.records.Symbol.{Symbol}
use Rattle.alf_archive.specs.declared.records.Archive.{Archive}
use Rattle.alf_archive.specs.declared.records.Member.{Member}
use Rattle.sdt_listing.specs.ArmTexts.{word_text}
use Rattle.sdt_listing.specs.Parts.{eight, four}
use Rattle.sdt_listing.specs.Readings.{arm_of, thumb_of}
use Rattle.sdt_listing.specs.ThumbTexts.{half_text}

-- a line with its line feed, of fields with one space between
abbrev pub line : List (List ℕ) → List ℕ
line fields = join_with_byte 32 fields ++ codes "\n"

-- the numbers from k on, n of them
abbrev pub from : ℕ → ℕ → List ℕ
from k zero = []
from k (suc n) = k ∷ from (suc k) n

-- ---- what an area holds

unfoldable pub word_line : ℕ → ℕ → List ℕ
word_line at w = line (eight at ∷ eight w ∷ word_text at w (arm_of w) ∷ [])

unfoldable pub half_line : ℕ → ℕ → List ℕ
half_line at h = line (eight at ∷ four h ∷ half_text at h (thumb_of h) ∷ [])

unfoldable pub data_line : ℕ → List ℕ → List ℕ
data_line at bytes = line (eight at ∷ encode_lower bytes ∷ [])

-- words of ARM code, half-words of Thumb code, and data from a place on, sixteen bytes a line
abbrev pub word_lines : List ℕ → List ℕ → List ℕ
word_lines bytes ks = flat_map (λ k. word_line (4 * k) (word_in bytes (4 * k))) ks

abbrev pub half_lines : List ℕ → List ℕ → List ℕ
half_lines bytes ks = flat_map (λ k. half_line (2 * k) (half_in bytes (2 * k))) ks

abbrev pub data_lines : ℕ → List ℕ → List ℕ → List ℕ
data_lines place bytes ks = flat_map (λ k. data_line (place + 16 * k) (take 16 (drop (16 * k) bytes))) ks

-- by the area's attributes: zero-initialised (12), code (9), Thumb code (20)
unfoldable pub contents : ℕ → List ℕ → List ℕ
contents attributes bytes =
    if bit attributes 12 == 1 then [] else (
    if bit attributes 9 == 1 then (
    if bit attributes 20 == 1 then half_lines bytes (from 0 (length bytes / 2)) else word_lines bytes (from 0 (length bytes / 4)))
    else data_lines 0 bytes (from 0 ((length bytes + 15) / 16)))

-- ---- the lines of an object

abbrev pub reloc_line : Reloc → List ℕ
reloc_line r = line (codes "reloc" ∷ eight r.offset ∷ eight r.word ∷ [])

abbrev pub area_line : Area → List ℕ
area_line a = line (codes "area" ∷ a.name ∷ eight a.attributes ∷ eight a.size ∷ decimal (length a.relocs) ∷ [])

abbrev pub area_text : Area → List ℕ
area_text a = area_line a ++ (contents a.attributes a.bytes ++ flat_map reloc_line a.relocs)

-- the name of an area by its number, where there is one
abbrev pub area_name : List Area → Option ℕ → List ℕ
area_name areas None = codes "-"
area_name areas (Some k) = option_map_or (λ a. a.name) (slice_get areas k) (codes "-")

abbrev pub symbol_line : List Area → Symbol → List ℕ
symbol_line areas s = line (codes "symbol" ∷ s.name ∷ eight s.attributes ∷ eight s.value ∷ area_name areas s.area ∷ [])

abbrev pub entry_text : List Area → Option Entry → List ℕ
entry_text areas None = []
entry_text areas (Some e) = line (codes "entry" ∷ area_name areas (Some e.area) ∷ eight e.offset ∷ [])

abbrev pub object_lines : Object → List ℕ
object_lines o = flat_map area_text o.areas ++ (flat_map (symbol_line o.areas) o.symbols ++ entry_text o.areas o.entry)

-- ---- listings

abbrev pub object_text : Object → List ℕ
object_text o = line (codes "object" ∷ []) ++ (object_lines o ++ line (codes "end" ∷ []))

abbrev pub member_text : Member → List ℕ
member_text m = line (codes "member" ∷ m.name ∷ []) ++ object_lines m.object

abbrev pub archive_text : Archive → List ℕ
archive_text a = line (codes "library" ∷ []) ++ (flat_map member_text a.members ++ line (codes "end" ∷ []))
