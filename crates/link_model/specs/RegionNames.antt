-- The names of region symbols, which the linker defines (SDT 2.50 Reference Guide, scatter loading and
-- armlink's area and region symbols; Boot$$Start is this project's).
use Rattle.std.specs.Prelude.{ℕ, Bool, ◌||◌, ◌&&◌, nat_lt, nat_le, nat_eq, ◌==◌, List, [], ◌∷◌, ◌++◌, drop, map, codes, Option, Some, None}
use Rattle.std.specs.List.{flat_map, starts_with, ends_with, prefix_len}
use Rattle.std.specs.Str.{bytes_eq}
use Rattle.aof_object.specs.declared.records.Object.{Object}
use Rattle.aof_object.specs.Names.{among}
use Rattle.aof_object.specs.Spelling.{area_names}

-- ---- the symbols of a region, in a scatter image and in another

abbrev pub load_base : List ℕ → List ℕ
load_base r = codes "Load$$" ++ r ++ codes "$$Base"

abbrev pub image_base : List ℕ → List ℕ
image_base r = codes "Image$$" ++ r ++ codes "$$Base"

abbrev pub image_length : List ℕ → List ℕ
image_length r = codes "Image$$" ++ r ++ codes "$$Length"

abbrev pub zero_base : List ℕ → List ℕ
zero_base r = codes "Image$$" ++ r ++ codes "$$ZI$$Base"

abbrev pub zero_length : List ℕ → List ℕ
zero_length r = codes "Image$$" ++ r ++ codes "$$ZI$$Length"

abbrev pub image_limit : List ℕ → List ℕ
image_limit r = codes "Image$$" ++ r ++ codes "$$Limit"

abbrev pub boot_start : List ℕ
boot_start = codes "Boot$$Start"

abbrev pub scatter_names : List ℕ → List (List ℕ)
scatter_names r = load_base r ∷ image_base r ∷ image_length r ∷ zero_base r ∷ zero_length r ∷ []

abbrev pub plain_names : List ℕ → List (List ℕ)
plain_names r = image_base r ∷ image_limit r ∷ []

-- the region symbols of a scatter image with these regions, and of another image
abbrev pub names_of_scatter : List (List ℕ) → List (List ℕ)
names_of_scatter regions = boot_start ∷ flat_map scatter_names regions

abbrev pub names_of_plain : List (List ℕ)
names_of_plain = flat_map plain_names (codes "RO" ∷ codes "RW" ∷ codes "ZI" ∷ [])

-- ---- the symbols of areas

abbrev pub area_base : List ℕ → List ℕ
area_base a = a ++ codes "$$Base"

abbrev pub area_limit : List ℕ → List ℕ
area_limit a = a ++ codes "$$Limit"

-- the names of all areas of some objects
abbrev pub names_of_areas : List Object → List (List ℕ)
names_of_areas os = flat_map (λ o. area_names o.areas) os

-- the name is the Base or the Limit of one of these areas
abbrev pub names_an_area : List (List ℕ) → List ℕ → Bool
names_an_area areas q = among q (map area_base areas) || among q (map area_limit areas)

-- ---- names of a region symbol's form, whatever the regions are

-- a letter, a digit or _, as region names have them
abbrev pub is_region_char : ℕ → Bool
is_region_char c = (nat_le 0x30 c && nat_le c 0x39) || ((nat_le 0x41 c && nat_le c 0x5A) || ((nat_le 0x61 c && nat_le c 0x7A) || c == 0x5F))

-- a region's name, and then $$Length or $$ZI$$Length
abbrev pub is_length_of : ℕ → List ℕ → Bool
is_length_of n rest = nat_lt 0 n && (bytes_eq (drop n rest) (codes "$$Length") || bytes_eq (drop n rest) (codes "$$ZI$$Length"))

abbrev pub is_length_name : List ℕ → Bool
is_length_name q = starts_with nat_eq q (codes "Image$$") && is_length_of (prefix_len is_region_char (drop 7 q)) (drop 7 q)

abbrev pub has_region_form : List ℕ → Bool
has_region_form q = ends_with nat_eq q (codes "$$Base") || (ends_with nat_eq q (codes "$$Limit") || (bytes_eq q boot_start || is_length_name q))

-- ---- which names that no linked object exports have a meaning

-- with the region symbols that the kind of image has: these, and those of the linked areas; without, where
-- the description of the regions is at fault, every name of the form
abbrev pub names_a_region : Option (List (List ℕ)) → List Object → List ℕ → Bool
names_a_region None os q = has_region_form q
names_a_region (Some names) os q = among q names || names_an_area (names_of_areas os) q
