-- Worked values of the definitions: veneers of a branch in each direction, and region symbols.
use Rattle.std.proofs.Common.{◌≡◌, ℕ, Bool, true, false, List, [], ◌∷◌, Option, Some, None, refl}
use Rattle.std.specs.Prelude.{codes}
use Rattle.aof_object.specs.declared.records.Area.{Area}
use Rattle.aof_object.specs.declared.records.Object.{Object}
use Rattle.aof_object.specs.declared.records.Reloc.{Reloc}
use Rattle.aof_object.specs.declared.records.Symbol.{Symbol}
use Rattle.link_model.specs.declared.placing.AreaName.{AreaName}
use Rattle.link_model.specs.declared.placing.Placement.{Placement}
use Rattle.link_model.specs.declared.placing.Veneer.{Veneer}
use Rattle.link_model.specs.Members.{Link}
use Rattle.link_model.specs.RegionNames.{has_region_form}
use Rattle.link_model.specs.RegionValues.{region_number}
use Rattle.link_model.specs.Veneers.{veneers_of}

abbrev pub area : List ℕ → ℕ → List ℕ → List Reloc → Area
area name attributes bytes relocs = record { name = name; attributes = attributes; size = 8; bytes = bytes; relocs = relocs }

abbrev pub symbol : ℕ → Option ℕ → Symbol
symbol attributes home = record { name = codes "func"; attributes = attributes; value = 0; area = home }

abbrev pub object : Area → Symbol → Object
object a s = record { areas = a ∷ []; symbols = s ∷ []; entry = None }

abbrev pub both : Object → Object → Link
both caller callee = record {
  objects = caller ∷ callee ∷ [];
  definitions = (record { name = codes "func"; object = 1; symbol = 0 }) ∷ [];
  entry = record { object = 0; area = 0; offset = 0; thumb = false };
}

abbrev in_one : List (List AreaName)
in_one = ((record { object = 0; area = 0 }) ∷ (record { object = 1; area = 0 }) ∷ []) ∷ [] ∷ [] ∷ []

abbrev to_second : Bool → List Veneer
to_second thumb = (record { region = 0; area = record { object = 1; area = 0 }; offset = 0; thumb = thumb }) ∷ []

abbrev pub reloc : ℕ → ℕ → Reloc
reloc offset word = record { offset = offset; word = word }

-- BL func in ARM state, EBFFFFFE at offset 0, where func is Thumb code, with these relocations
abbrev pub from_arm : List Reloc → Link
from_arm relocs =
    both (object (area (codes "main") 0x2202 (0xFE ∷ 0xFF ∷ 0xFF ∷ 0xEB ∷ 0x11 ∷ 0 ∷ 0 ∷ 0xEF ∷ []) relocs) (symbol 2 None))
    (object (area (codes "t") 0x502202 (1 ∷ 0x20 ∷ 0x70 ∷ 0x47 ∷ []) []) (symbol 0x1003 (Some 0)))

-- BL func in Thumb state, F7FF FFFE at offset 0, where func is ARM code
abbrev from_thumb : List Reloc → Link
from_thumb relocs =
    both (object (area (codes "a") 0x102202 (0xFF ∷ 0xF7 ∷ 0xFE ∷ 0xFF ∷ 0x11 ∷ 0xDF ∷ 0 ∷ 0 ∷ []) relocs) (symbol 2 None))
    (object (area (codes "b") 0x402202 (0x1E ∷ 0xFF ∷ 0x2F ∷ 0xE1 ∷ []) []) (symbol 3 (Some 0)))

arm_calls_thumb : veneers_of (from_arm (reloc 0 0x8F000000 ∷ [])) in_one false ≡ to_second true
arm_calls_thumb = refl

thumb_calls_arm : veneers_of (from_thumb (reloc 1 0x8F000000 ∷ [])) in_one false ≡ to_second false
thumb_calls_arm = refl

-- a relocation of a half-word or a byte inside the field is of another field: the branch keeps its veneer
half_word_inside : veneers_of (from_arm (reloc 0 0x8F000000 ∷ reloc 2 0x89000000 ∷ [])) in_one false ≡ to_second true
half_word_inside = refl

half_word_at_its_start : veneers_of (from_arm (reloc 0 0x89000000 ∷ reloc 0 0x8F000000 ∷ [])) in_one false ≡ to_second true
half_word_at_its_start = refl

byte_inside : veneers_of (from_thumb (reloc 1 0x8F000000 ∷ reloc 1 0x88000000 ∷ [])) in_one false ≡ to_second false
byte_inside = refl

-- two relocations of the same place and width, or one that isn't relative: no veneer
twice : veneers_of (from_arm (reloc 0 0x8F000000 ∷ reloc 0 0x8F000000 ∷ [])) in_one false ≡ []
twice = refl

word_too : veneers_of (from_arm (reloc 0 0x8F000000 ∷ reloc 0 0x8A000000 ∷ [])) in_one false ≡ []
word_too = refl

not_relative : veneers_of (from_arm (reloc 0 0x8B000000 ∷ [])) in_one false ≡ []
not_relative = refl

-- no veneer to code of the same state
same_state : veneers_of
    (both (object (area (codes "main") 0x2202 (0xFE ∷ 0xFF ∷ 0xFF ∷ 0xEB ∷ 0x11 ∷ 0 ∷ 0 ∷ 0xEF ∷ []) (reloc 0 0x8F000000 ∷ [])) (symbol 2 None))
    (object (area (codes "b") 0x2202 (0x1E ∷ 0xFF ∷ 0x2F ∷ 0xE1 ∷ []) []) (symbol 3 (Some 0)))) in_one false
    ≡ []
same_state = refl

-- ---- region symbols

abbrev scatter : Placement
scatter = record {
  regions =
      (record { name = codes "X"; load_region = 0; load = 0x8000; base = 0x8000; length = 0x98; zero = 0 })
      ∷ (record { name = codes "Y"; load_region = 0; load = 0x8098; base = 0x9000; length = 4; zero = 8 }) ∷ [];
  areas = (record { area = record { object = 0; area = 0 }; region = 0; address = 0x8000 }) ∷ [];
  veneers = [];
  boot = Some 0x8004;
}

-- a region at the end of memory, and an empty one behind it with an empty area
abbrev at_the_end : Option ℕ → Placement
at_the_end boot = record {
  regions =
      (record { name = codes "RO"; load_region = 0; load = 0xFFFFFFF0; base = 0xFFFFFFF0; length = 0x10; zero = 0 })
      ∷ (record { name = codes "RW"; load_region = 0; load = 0x100000000; base = 0x100000000; length = 0; zero = 0 }) ∷ [];
  areas =
      (record { area = record { object = 0; area = 0 }; region = 0; address = 0xFFFFFFF8 })
      ∷ (record { area = record { object = 1; area = 0 }; region = 1; address = 0x100000000 }) ∷ [];
  veneers = [];
  boot = boot;
}

abbrev named_main : ℕ → Object
named_main size = record { areas = (record { name = codes "main"; attributes = 0x2202; size = size; bytes = []; relocs = [] }) ∷ []; symbols = []; entry = None }

abbrev one : List Object
one = named_main 8 ∷ []

-- the second one's area of the same name is empty
abbrev two : List Object
two = named_main 8 ∷ named_main 0 ∷ []

load_address : region_number one scatter (codes "Load$$Y$$Base") ≡ Some 0x8098
load_address = refl

zero_address : region_number one scatter (codes "Image$$Y$$ZI$$Base") ≡ Some 0x9004
zero_address = refl

zero_size : region_number one scatter (codes "Image$$Y$$ZI$$Length") ≡ Some 8
zero_size = refl

boot_address : region_number one scatter (codes "Boot$$Start") ≡ Some 0x8004
boot_address = refl

no_limit : region_number one scatter (codes "Image$$X$$Limit") ≡ None
no_limit = refl

area_start : region_number one scatter (codes "main$$Base") ≡ Some 0x8000
area_start = refl

area_end : region_number one scatter (codes "main$$Limit") ≡ Some 0x8008
area_end = refl

-- without a description of regions the end of memory is 2^32
end_of_memory : region_number two (at_the_end None) (codes "Image$$RW$$Base") ≡ Some 0x100000000
end_of_memory = refl

last_limit : region_number two (at_the_end None) (codes "Image$$RO$$Limit") ≡ Some 0x100000000
last_limit = refl

last_area : region_number two (at_the_end None) (codes "main$$Limit") ≡ Some 0x100000000
last_area = refl

-- with one it is 0, but not before the least start and the greatest end are taken
end_is_reduced : region_number two (at_the_end (Some 0xFFFFFFF0)) (codes "Image$$RW$$Base") ≡ Some 0
end_is_reduced = refl

load_end_is_reduced : region_number two (at_the_end (Some 0xFFFFFFF0)) (codes "Load$$RW$$Base") ≡ Some 0
load_end_is_reduced = refl

zero_end_is_reduced : region_number two (at_the_end (Some 0xFFFFFFF0)) (codes "Image$$RO$$ZI$$Base") ≡ Some 0
zero_end_is_reduced = refl

least_start : region_number two (at_the_end (Some 0xFFFFFFF0)) (codes "main$$Base") ≡ Some 0xFFFFFFF8
least_start = refl

greatest_end : region_number two (at_the_end (Some 0xFFFFFFF0)) (codes "main$$Limit") ≡ Some 0
greatest_end = refl

a_length : has_region_form (codes "Image$$X_1$$ZI$$Length") ≡ true
a_length = refl

no_region_name : has_region_form (codes "Image$$$$Length") ≡ false
no_region_name = refl
