-- The numbers of region symbols over a placement (SDT 2.50 Reference Guide, scatter loading and armlink's
-- area and region symbols; Boot$$Start is this project's). The addresses of a placement are not reduced
-- modulo 2^32: at the end of memory stands 2^32. In a scatter image the numbers are reduced; in another
-- they are not, so that a branch leads to 2^32 and not to 0 (this project's).
use Rattle.std.specs.Prelude.{ℕ, ◌+◌, ◌%◌, ◌^◌, Bool, false, min, max, List, [], ◌∷◌, map, slice_get, unwrap_or, Option, Some, None}
use Rattle.std.specs.List.{flat_map, find, filter}
use Rattle.std.specs.Option.{option_map, option_and_then, option_or}
use Rattle.std.specs.Str.{bytes_eq}
use Rattle.aof_object.specs.declared.records.Area.{Area}
use Rattle.aof_object.specs.declared.records.Object.{Object}
use Rattle.link_model.specs.declared.placing.AreaName.{AreaName}
use Rattle.link_model.specs.declared.placing.PlacedArea.{PlacedArea}
use Rattle.link_model.specs.declared.placing.Placement.{Placement}
use Rattle.link_model.specs.declared.placing.Region.{Region}
use Rattle.link_model.specs.RegionNames.{load_base, image_base, image_length, zero_base, zero_length, image_limit, boot_start, area_base, area_limit, names_of_areas}

-- ---- the symbols of regions

abbrev pub scatter_numbers : Region → List (List ℕ × ℕ)
scatter_numbers r =
    (load_base r.name, r.load) ∷ (image_base r.name, r.base) ∷ (image_length r.name, r.length)
    ∷ (zero_base r.name, r.base + r.length) ∷ (zero_length r.name, r.zero) ∷ []

abbrev pub plain_numbers : Region → List (List ℕ × ℕ)
plain_numbers r = (image_base r.name, r.base) ∷ (image_limit r.name, r.base + r.length + r.zero) ∷ []

-- a placement has a boot area exactly where it is one of a scatter image
abbrev pub numbers_by : Option ℕ → List Region → List (List ℕ × ℕ)
numbers_by None regions = flat_map plain_numbers regions
numbers_by (Some boot) regions = (boot_start, boot) ∷ flat_map scatter_numbers regions

abbrev pub number_of_region : Placement → List ℕ → Option ℕ
number_of_region p q = option_map (λ e. e.1) (find (λ e. bytes_eq e.0 q) (numbers_by p.boot p.regions))

-- ---- the symbols of areas

abbrev pub area_of : List Object → AreaName → Option Area
area_of os a = option_and_then (λ o. slice_get o.areas a.area) (slice_get os a.object)

abbrev pub has_name : List ℕ → Option Area → Bool
has_name q None = false
has_name q (Some a) = bytes_eq a.name q

-- the placed areas of a name
abbrev pub areas_named : List Object → Placement → List ℕ → List PlacedArea
areas_named os p q = filter (λ a. has_name q (area_of os a.area)) p.areas

abbrev pub size_of : Option Area → ℕ
size_of None = 0
size_of (Some a) = a.size

abbrev pub end_of : List Object → PlacedArea → ℕ
end_of os a = a.address + size_of (area_of os a.area)

abbrev pub least : List ℕ → Option ℕ
least [] = None
least (x ∷ xs) = Some (min x (unwrap_or (least xs) x))

abbrev pub greatest : List ℕ → Option ℕ
greatest [] = None
greatest (x ∷ xs) = Some (max x (unwrap_or (greatest xs) x))

abbrev pub least_start : List Object → Placement → List ℕ → Option ℕ
least_start os p q = least (map (λ a. a.address) (areas_named os p q))

abbrev pub greatest_end : List Object → Placement → List ℕ → Option ℕ
greatest_end os p q = greatest (map (end_of os) (areas_named os p q))

abbrev pub number_of_area : List Object → Placement → List ℕ → Option ℕ
number_of_area os p q =
    option_or (option_and_then (least_start os p) (find (λ a. bytes_eq (area_base a) q) (names_of_areas os)))
    (option_and_then (greatest_end os p) (find (λ a. bytes_eq (area_limit a) q) (names_of_areas os)))

-- ---- both: a region's meaning comes first

abbrev pub reduced_by : Option ℕ → ℕ → ℕ
reduced_by None n = n
reduced_by (Some boot) n = n % 2 ^ 32

-- the number of a region symbol of this name, where the image has one
abbrev pub region_number : List Object → Placement → List ℕ → Option ℕ
region_number os p q = option_map (reduced_by p.boot) (option_or (number_of_region p q) (number_of_area os p q))
