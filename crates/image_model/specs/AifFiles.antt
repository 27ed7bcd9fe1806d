-- An ARM image file (SDT 2.50 Reference Guide, ARM Image Format; the relocator, the zero-init code and which
-- fields are zero are this project's).
use Rattle.std.specs.Prelude.{ℕ, zero, suc, ◌+◌, ◌-◌, ◌/◌, Bool, true, false, ◌==◌, if◌then◌else◌, List, [], ◌∷◌, ◌++◌, replicate, slice_get, unwrap_or}
use Rattle.std.specs.List.{flat_map}
use Rattle.std.specs.Option.{option_map}
use Rattle.boot_code.specs.Boots.{ByteMap}
use Rattle.boot_code.specs.Words.{zero_list, relocator_list}
use Rattle.boot_code.specs.Maps.{bytes_of_words}
use Rattle.place_model.specs.declared.scatter.Kind.TheVariants as kind
use Rattle.place_model.specs.Plans.{Contents, Planned, length_of, execution_size, Plan, regions_of, plan_of}
use Rattle.image_model.specs.Regions.{Given, Filling, region_bytes, filled}
use Rattle.image_model.specs.Views.{view_of}

-- ---- the sizes of RO with the header, of RW, of both, and of the zero part

abbrev pub size_in : (Planned → ℕ) → Plan → ℕ → ℕ
size_in size p region = unwrap_or (option_map size (slice_get (regions_of p) region)) 0

abbrev pub parts_size : Plan → ℕ
parts_size p = size_in length_of p 0 + size_in length_of p 1

abbrev pub zero_size : Plan → ℕ
zero_size p = size_in execution_size p 2

-- ---- the header at the image's base

-- BL from one offset to another behind it
abbrev pub call_from : ℕ → ℕ → ℕ
call_from at target = 0xEB000000 + (target - (at + 8)) / 4

-- with a call of the relocator behind the parts, or without
abbrev pub header_words : Bool → Plan → ℕ → ℕ → List ℕ
header_words moves p base call =
    0xE1A00000
    ∷ (if moves then call_from 4 (parts_size p) else 0xE1A00000)
    ∷ (if zero_size p == 0 then 0xE1A00000 else call_from 8 0x40)
    ∷ call_from 0xC (call - base)
    ∷ 0xEF000011
    ∷ size_in length_of p 0 ∷ size_in length_of p 1 ∷ 0 ∷ zero_size p
    ∷ 0 ∷ base ∷ 0
    ∷ 32
    ∷ 0 ∷ 0 ∷ 0
    ∷ zero_list

abbrev pub with_header : Bool → Plan → ℕ → Given → Filling
with_header moves p base g = filled g p (bytes_of_words (header_words moves p base g.call))

-- ---- the relocator's list: offsets ascending, each as often as its word has shifts

-- of so many words from an offset on
abbrev pub shifted_offsets : (ℕ → ℕ) → ℕ → ℕ → List ℕ
shifted_offsets shifts at zero = []
shifted_offsets shifts at (suc n) = replicate (shifts at) at ++ shifted_offsets shifts (at + 4) n

abbrev pub offsets_of : (ℕ → ℕ) → Plan → List ℕ
offsets_of shifts p = shifted_offsets shifts 0 (parts_size p / 4)

-- ---- the file

abbrev pub parts_bytes : Bool → Plan → ℕ → Given → List ℕ
parts_bytes moves p base g = flat_map (region_bytes (with_header moves p base g)) (regions_of p)

abbrev pub fixed_aif : Plan → ℕ → Given → List ℕ
fixed_aif p base g = parts_bytes false p base g

abbrev pub relocatable_aif : Plan → ℕ → Given → (ℕ → ℕ) → List ℕ
relocatable_aif p base g shifts =
    parts_bytes true p base g ++ bytes_of_words (relocator_list ++ (offsets_of shifts p ++ 0xFFFFFFFF ∷ []))

-- ---- what the program sees: an image that was moved to a base calls no relocator there, and names that base

abbrev pub aif_plan : ℕ → Bool → Contents → Plan
aif_plan base relocatable c = plan_of (kind.Aif base relocatable) c

abbrev pub aif_view : ℕ → Bool → Contents → Given → ByteMap
aif_view base relocatable c g =
    view_of (aif_plan base relocatable c) (with_header false (aif_plan base relocatable c) base g)
