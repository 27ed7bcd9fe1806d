-- Worked regions: calls between the states, and flaws at the edges. The numbers are worked out by hand.
use Rattle.std.proofs.Common.{◌≡◌, ℕ, Bool, true, false, List, [], ◌∷◌, Some, None, refl}
use Rattle.std.specs.Prelude.{codes}
use Rattle.sdt_word.specs.Bytes.{bytes_of}
use Rattle.sdt_fault.specs.declared.refusal.Refusal.TheVariants.{BadRelocation, FieldOverflow, Unreachable}
use Rattle.aof_object.specs.declared.records.Area.{Area}
use Rattle.aof_object.specs.declared.records.Reloc.{Reloc}
use Rattle.aof_object.specs.declared.records.Symbol.{Symbol}
use Rattle.boot_code.specs.Maps.{bytes_of_words}
use Rattle.link_model.specs.declared.placing.PlacedArea.{PlacedArea}
use Rattle.link_model.specs.declared.placing.PlacedVeneer.{PlacedVeneer}
use Rattle.link_model.specs.declared.placing.Placement.{Placement}
use Rattle.link_model.specs.declared.selection.Linked.{Linked}
use Rattle.link_model.specs.Members.{link_of}
use Rattle.link_apply.specs.Flaws.{apply_refusal}
use Rattle.link_apply.specs.RegionBytes.{regions_bytes}

-- ---- one object, linked alone, its areas in one region

abbrev area : ℕ → List ℕ → List Reloc → Area
area attributes bytes relocs = record { name = codes "x"; attributes = attributes; size = 8; bytes = bytes; relocs = relocs }

abbrev reloc : ℕ → ℕ → Reloc
reloc offset word = record { offset = offset; word = word }

abbrev linked : List Area → List Symbol → Linked
linked areas symbols = record {
  objects = (record { name = codes "o"; «module» = codes "o"; value = record { areas = areas; symbols = symbols; entry = None } }) ∷ [];
  definitions = [];
  entry = record { object = 0; area = 0; offset = 0; thumb = false };
}

abbrev placed : ℕ → ℕ → PlacedArea
placed area address = record { area = record { object = 0; area = area }; region = 0; address = address }

abbrev placement : ℕ → ℕ → List PlacedArea → List PlacedVeneer → Placement
placement base length areas veneers = record {
  regions = (record { name = codes "RO"; load_region = 0; load = base; base = base; length = length; zero = 0 }) ∷ [];
  areas = areas;
  veneers = veneers;
  boot = None;
}

abbrev func : ℕ → ℕ → Symbol
func attributes value = record { name = codes "func"; attributes = attributes; value = value; area = Some 1 }

abbrev veneer : Bool → ℕ → PlacedVeneer
veneer thumb address = record { veneer = record { region = 0; area = record { object = 0; area = 1 }; offset = 0; thumb = thumb }; address = address }

-- ---- BL func and SWI 0x11 in ARM state; func is MOV r0,#1 and BX lr in Thumb state

abbrev from_arm : Linked
from_arm =
    linked (area 0x2202 (bytes_of_words (0xEBFFFFFE ∷ 0xEF000011 ∷ [])) (reloc 0 0x8F000000 ∷ []) ∷ area 0x502202 (bytes_of 0x47702001 4) [] ∷ []) (func 0x1001 0 ∷ [])

abbrev after_arm : Placement
after_arm = placement 0x8000 0x18 (placed 0 0x8000 ∷ placed 1 0x8008 ∷ []) (veneer true 0x800C ∷ [])

arm_calls_thumb-accepted : apply_refusal from_arm after_arm ≡ None
arm_calls_thumb-accepted = refl

arm_calls_thumb : regions_bytes (link_of from_arm) after_arm
    ≡ bytes_of_words (0xEB000001 ∷ 0xEF000011 ∷ 0x47702001 ∷ 0xE59FC000 ∷ 0xE12FFF1C ∷ 0x00008009 ∷ []) ∷ []
arm_calls_thumb = refl

-- ---- BL f and SWI 0x11 in Thumb state; f is BX lr in ARM state

abbrev from_thumb : Linked
from_thumb =
    linked (area 0x102202 (bytes_of_words (0xFFFEF7FF ∷ 0x0000DF11 ∷ [])) (reloc 1 0x8F000000 ∷ []) ∷ area 0x402202 (bytes_of 0xE12FFF1E 4) [] ∷ []) (func 1 0 ∷ [])

abbrev after_thumb : Placement
after_thumb = placement 0x8000 0x14 (placed 0 0x8000 ∷ placed 1 0x8008 ∷ []) (veneer false 0x800C ∷ [])

thumb_calls_arm-accepted : apply_refusal from_thumb after_thumb ≡ None
thumb_calls_arm-accepted = refl

thumb_calls_arm : regions_bytes (link_of from_thumb) after_thumb
    ≡ bytes_of_words (0xF804F000 ∷ 0x0000DF11 ∷ 0xE12FFF1E ∷ 0x46C04778 ∷ 0xEAFFFFFC ∷ []) ∷ []
thumb_calls_arm = refl

-- ---- how far the pair of BL reaches: from 0x100 to 0x200, to 0x400102 at most

abbrev to_thumb : ℕ → Linked
to_thumb value = linked (area 0x102202 (bytes_of 0xFFFEF7FF 4) (reloc 1 0x8F000000 ∷ []) ∷ area 0x102202 [] [] ∷ []) (func 0x1001 value ∷ [])

abbrev elsewhere : ℕ → PlacedArea
elsewhere address = record { area = record { object = 0; area = 1 }; region = 1; address = address }

abbrev at_0x100 : Placement
at_0x100 = placement 0x100 4 (placed 0 0x100 ∷ elsewhere 0x200 ∷ []) []

to_0x200 : regions_bytes (link_of (to_thumb 0)) at_0x100 ≡ bytes_of 0xF87EF000 4 ∷ []
to_0x200 = refl

to_0x400102 : apply_refusal (to_thumb 0x3FFF02) at_0x100 ≡ None
to_0x400102 = refl

to_0x400104 : apply_refusal (to_thumb 0x3FFF04) at_0x100 ≡ Some (Unreachable (codes "o") (codes "x") 0 (codes "func"))
to_0x400104 = refl

to_an_odd_address : apply_refusal (to_thumb 3) at_0x100 ≡ Some (BadRelocation (codes "o") (codes "x") 0)
to_an_odd_address = refl

-- ---- a byte and an absolute symbol, and fields that overlap

abbrev absolute : ℕ → Symbol
absolute value = record { name = codes "n"; attributes = 5; value = value; area = None }

abbrev with_byte : ℕ → Linked
with_byte value = linked (area 2 (1 ∷ 0 ∷ 0 ∷ 0 ∷ []) (reloc 0 0x88000000 ∷ []) ∷ []) (absolute value ∷ [])

abbrev at_0 : Placement
at_0 = placement 0 4 (placed 0 0 ∷ []) []

byte_of_255 : regions_bytes (link_of (with_byte 254)) at_0 ≡ (255 ∷ 0 ∷ 0 ∷ 0 ∷ []) ∷ []
byte_of_255 = refl

byte_of_256 : apply_refusal (with_byte 255) at_0 ≡ Some (FieldOverflow (codes "o") (codes "x") 0)
byte_of_256 = refl

overlapping : apply_refusal (linked (area 2 (0 ∷ 0 ∷ 0 ∷ 0 ∷ 0 ∷ 0 ∷ 0 ∷ 0 ∷ []) (reloc 4 0x8A000000 ∷ reloc 0 0x8A000000 ∷ reloc 3 0x88000000 ∷ []) ∷ []) (absolute 0 ∷ [])) at_0
    ≡ Some (BadRelocation (codes "o") (codes "x") 0)
overlapping = refl
