-- The mapping symbols, by which a debugger tells ARM code, Thumb code and data from each other (ELF for the ARM Architecture,
-- mapping symbols). What an object tells of that is this project's reading of SDT 2.50 Reference Guide, ARM Object Format: in an
-- area of code each symbol of the object tells what stands from it on, and the area what stands at its start where no symbol is.
use Rattle.std.specs.Prelude.{ℕ, ◌+◌, ◌*◌, ◌%◌, ◌^◌, Bool, true, false, ◌&&◌, ◌==◌, nat_lt, if◌then◌else◌, List, [], ◌∷◌, length, Option, Some, None}
use Rattle.std.specs.List.{find}
use Rattle.std.specs.Option.{option_map}
use Rattle.aof_object.specs.declared.records.Area.{Area}
use Rattle.aof_object.specs.declared.records.Object.{Object}
use Rattle.aof_object.specs.declared.records.Symbol.{Symbol}
use Rattle.aof_object.specs.Flags.{is_code, is_datum, is_thumb_area, is_thumb_symbol}
use Rattle.boot_code.specs.Words.{boot_list}
use Rattle.elf_image.specs.declared.tables.Binding.TheVariants as binding
use Rattle.elf_image.specs.declared.tables.ElfSymbol.{ElfSymbol}
use Rattle.elf_image.specs.declared.tables.Section.{Section}
use Rattle.elf_image.specs.declared.tables.SymbolKind.TheVariants as symbol
use Rattle.patch_model.specs.Fields.{Home, Meant}
use Rattle.link_model.specs.declared.placing.PlacedVeneer.{PlacedVeneer}
use Rattle.link_model.specs.RegionValues.{area_of, size_of}
use Rattle.link_model.specs.Values.{home_area}
use Rattle.link_symbols.specs.declared.marks.Content.{Content}
use Rattle.link_symbols.specs.declared.marks.Content.TheVariants.{Arm, Thumb, Data}
use Rattle.link_symbols.specs.Sections.{place_of}
use Rattle.link_symbols.specs.Shown.{Shown}

-- ---- one mapping symbol

-- $a, $t and $d
abbrev pub mark_name : Content → List ℕ
mark_name Arm = 36 ∷ 97 ∷ []
mark_name Thumb = 36 ∷ 116 ∷ []
mark_name Data = 36 ∷ 100 ∷ []

abbrev pub mark : List Section → Content → ℕ → ElfSymbol
mark sections content address = record {
  name = mark_name content;
  value = address % 2 ^ 32;
  binding = binding.Local;
  kind = symbol.Untyped;
  place = place_of (address % 2 ^ 32) sections;
}

-- ---- at symbols of an object

abbrev pub content_by : Bool → Bool → Content
content_by true thumb = Data
content_by false true = Thumb
content_by false false = Arm

-- in an area of code
abbrev pub is_code_area : Option Area → Bool
is_code_area None = false
is_code_area (Some a) = is_code a.attributes

abbrev pub area_at : List Object → Home → Option Area
area_at os h = area_of os (record { object = h.object; area = h.area })

-- inside its area, not at its start and not at its end
abbrev pub is_inside : ℕ → ℕ → Bool
is_inside size offset = nat_lt 0 offset && nat_lt offset size

abbrev pub is_marked : List Object → Option Home → Bool
is_marked os None = false
is_marked os (Some h) = is_code_area (area_at os h) && is_inside (size_of (area_at os h)) h.offset

abbrev pub label_marks : Shown → Meant → List ElfSymbol
label_marks w m = if is_marked w.objects m.home then mark w.sections (content_by m.datum m.thumb) m.number ∷ [] else []

-- ---- at the start of an area

abbrev pub is_that : ℕ → Option ℕ → Bool
is_that area None = false
is_that area (Some a) = a == area

-- a symbol stands at the start of the object's area of a number
abbrev pub starts : ℕ → Symbol → Bool
starts area s = s.value == 0 && is_that area (home_area s)

abbrev pub content_of : Symbol → Content
content_of s = content_by (is_datum s.attributes) (is_thumb_symbol s.attributes)

-- what the first symbol at the start tells
abbrev pub told_at_start : List Symbol → ℕ → Option Content
told_at_start symbols area = option_map content_of (find (starts area) symbols)

abbrev pub content_or : ℕ → Option Content → Content
content_or attributes (Some content) = content
content_or attributes None = content_by false (is_thumb_area attributes)

abbrev pub first_content : ℕ → Option Content → Content
first_content attributes told = if is_code attributes then content_or attributes told else Data

-- ---- of what the linker adds

-- from ARM to Thumb state two instructions and an address; from Thumb to ARM state two of Thumb state and one of ARM state
abbrev pub veneer_marks : List Section → PlacedVeneer → List ElfSymbol
veneer_marks sections v =
    if v.veneer.thumb then mark sections Arm v.address ∷ mark sections Data (v.address + 8) ∷ []
    else mark sections Thumb v.address ∷ mark sections Arm (v.address + 4) ∷ []

-- the startup code, and its table behind
abbrev pub boot_marks : List Section → Option ℕ → List ElfSymbol
boot_marks sections None = []
boot_marks sections (Some boot) = mark sections Arm boot ∷ mark sections Data (boot + 4 * length boot_list) ∷ []
