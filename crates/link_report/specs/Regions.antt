-- What a report tells of load regions, of execution regions and of what stands in each: areas, veneers, the startup code
-- and the zero part. This project's.
use Rattle.std.specs.Prelude.{ℕ, zero, suc, ◌+◌, ◌-◌, Bool, true, false, not, ◌&&◌, ◌==◌, if◌then◌else◌, List, [], ◌∷◌, ◌++◌, sum_by, codes, Option, Some, None}
use Rattle.std.specs.List.{flat_map}
use Rattle.sdt_word.specs.Numbers.{bit}
use Rattle.aof_object.specs.declared.records.Area.{Area}
use Rattle.aof_object.specs.declared.records.Object.{Object}
use Rattle.place_model.specs.declared.scatter.Kind.{Kind}
use Rattle.place_model.specs.declared.scatter.ScatterLoad.{ScatterLoad}
use Rattle.link_model.specs.declared.placing.PlacedArea.{PlacedArea}
use Rattle.link_model.specs.declared.placing.PlacedVeneer.{PlacedVeneer}
use Rattle.link_model.specs.declared.placing.Placement.{Placement}
use Rattle.link_model.specs.declared.placing.Region.{Region}
use Rattle.link_model.specs.declared.placing.Veneer.{Veneer}
use Rattle.link_model.specs.declared.selection.Named.{Named}
use Rattle.link_model.specs.RegionValues.{size_of}
use Rattle.link_items.specs.LinkedItems.{has_header}
use Rattle.link_report.specs.Lines.{line, eight, state_word, object_name, name_of_area, attributes_of, area_at, place_of}

-- ---- load regions

-- the one that no description names
abbrev pub load_name : List ℕ → List ℕ
load_name [] = codes "-"
load_name (c ∷ cs) = c ∷ cs

abbrev pub length_in : ℕ → Region → ℕ
length_in number r = if r.load_region == number then r.length else 0

-- the load region of a number has the bytes of its execution regions
abbrev pub load_size : List Region → ℕ → ℕ
load_size rs number = sum_by (length_in number) rs

abbrev pub load_line : List Region → ℕ → List ℕ → ℕ → List ℕ
load_line rs number name base = line (codes "load" ∷ load_name name ∷ eight base ∷ eight (load_size rs number) ∷ [])

-- those that are counted from a number on
abbrev pub loads_text : List Region → ℕ → List ScatterLoad → List ℕ
loads_text rs number [] = []
loads_text rs number (l ∷ ls) = load_line rs number l.name l.base ++ loads_text rs (suc number) ls

-- ---- what stands in an execution region

abbrev pub area_line : List (Named Object) → PlacedArea → List ℕ
area_line os a =
    line (codes "area" ∷ eight a.address ∷ eight (size_of (area_at os a.area)) ∷ eight (attributes_of (area_at os a.area))
    ∷ object_name os a.area.object ∷ name_of_area (area_at os a.area) ∷ [])

-- the areas of a region's zero part, or the others
abbrev pub is_zero : Option Area → Bool
is_zero None = false
is_zero (Some a) = bit a.attributes 12 == 1

abbrev pub is_of_part : Bool → Bool → Bool
is_of_part true zeros = zeros
is_of_part false zeros = not zeros

abbrev pub area_in : List (Named Object) → ℕ → Bool → PlacedArea → List ℕ
area_in os number zeros a =
    if a.region == number && is_of_part zeros (is_zero (area_at os a.area)) then area_line os a else []

abbrev pub areas_text : List (Named Object) → ℕ → Bool → List PlacedArea → List ℕ
areas_text os number zeros areas = flat_map (area_in os number zeros) areas

-- a veneer to a target in Thumb code has twelve bytes
abbrev pub veneer_size : Bool → ℕ
veneer_size thumb = if thumb then 12 else 8

-- the last fields of its line
abbrev pub target_text : List (Named Object) → Placement → Veneer → List ℕ
target_text os p v = line (eight (place_of p v.area v.offset) ∷ object_name os v.area.object ∷ name_of_area (area_at os v.area) ∷ [])

abbrev pub veneer_line : List (Named Object) → Placement → PlacedVeneer → List ℕ
veneer_line os p v =
    line (codes "veneer" ∷ eight v.address ∷ eight (veneer_size v.veneer.thumb) ∷ state_word v.veneer.thumb
    ∷ eight (place_of p v.veneer.area v.veneer.offset) ∷ object_name os v.veneer.area.object
    ∷ name_of_area (area_at os v.veneer.area) ∷ [])

abbrev pub veneer_in : List (Named Object) → Placement → ℕ → PlacedVeneer → List ℕ
veneer_in os p number v = if v.veneer.region == number then veneer_line os p v else []

abbrev pub veneers_text : List (Named Object) → Placement → ℕ → List PlacedVeneer → List ℕ
veneers_text os p number veneers = flat_map (veneer_in os p number) veneers

-- an ARM image file begins with its header
abbrev pub header_text : Kind → ℕ → Region → List ℕ
header_text k number r =
    if has_header k && number == 0 then line (codes "header" ∷ eight r.base ∷ eight 128 ∷ []) else []

-- the startup code is the last that is loaded of the first region
abbrev pub start_line : ℕ → Region → List ℕ
start_line boot r = line (codes "start" ∷ eight boot ∷ eight (r.base + r.length - boot) ∷ [])

abbrev pub start_text : Option ℕ → ℕ → Region → List ℕ
start_text None number r = []
start_text (Some boot) number r = if number == 0 then start_line boot r else []

abbrev pub zero_text : Region → List ℕ
zero_text r = if r.zero == 0 then [] else line (codes "zero" ∷ eight (r.base + r.length) ∷ eight r.zero ∷ [])

-- ---- execution regions

abbrev pub region_line : Region → List ℕ
region_line r = line (codes "exec" ∷ r.name ∷ eight r.load ∷ eight r.base ∷ eight r.length ∷ eight r.zero ∷ [])

-- in the order of addresses: what is loaded, with veneers and startup code behind the areas, and the zero part
abbrev pub region_text : Kind → List (Named Object) → Placement → ℕ → Region → List ℕ
region_text k os p number r =
    region_line r ++ (header_text k number r ++ (areas_text os number false p.areas
    ++ (veneers_text os p number p.veneers ++ (start_text p.boot number r ++ (zero_text r
    ++ areas_text os number true p.areas)))))

-- those that are counted from a number on
abbrev pub regions_text : Kind → List (Named Object) → Placement → ℕ → List Region → List ℕ
regions_text k os p number [] = []
regions_text k os p number (r ∷ rs) = region_text k os p number r ++ regions_text k os p (suc number) rs
