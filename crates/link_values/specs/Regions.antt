-- Region symbols by indexes of names. This project's.
use Rattle.std.specs.Prelude.{◌≡◌, ℕ, ◌-◌, min, max, if◌then◌else◌, nat_eq, List, [], ◌∷◌, length, take, codes, Option, Some, None}
use Rattle.std.specs.List.{ends_with, find}
use Rattle.std.specs.Option.{option_map, option_or}
use Rattle.std.specs.Str.{bytes_eq}
use Rattle.aof_object.specs.declared.records.Object.{Object}
use Rattle.link_model.specs.declared.placing.PlacedArea.{PlacedArea}
use Rattle.link_model.specs.declared.placing.Placement.{Placement}
use Rattle.link_model.specs.RegionValues.{area_of, has_name, end_of, reduced_by, region_number}
use Rattle.link_values.specs.declared.extents.Extent.{Extent}
use Rattle.link_values.specs.declared.regions.RegionSymbols.{RegionSymbols}
use Rattle.link_values.specs.Index.{Index, found_in}

-- ---- from the least start to the greatest end of the areas of a name

abbrev pub widened : Extent → Option Extent → Extent
widened e None = e
widened e (Some f) = record { start = min e.start f.start; end = max e.end f.end }

abbrev pub extent_of : List Object → PlacedArea → Extent
extent_of os a = record { start = a.address; end = end_of os a }

abbrev pub extent_in : List Object → List ℕ → List PlacedArea → Option Extent
extent_in os q [] = None
extent_in os q (a ∷ rest) =
    if has_name q (area_of os a.area) then Some (widened (extent_of os a) (extent_in os q rest)) else extent_in os q rest

abbrev pub AreExtents : List Object → List PlacedArea → Index Extent → Type 0
AreExtents os areas m = (q : List ℕ) → found_in m q ≡ extent_in os q areas

-- ---- the numbers of region symbols

-- each name has the first number that it is given here
abbrev pub AreNumbers : List (List ℕ × ℕ) → Index ℕ → Type 0
AreNumbers numbers m = (q : List ℕ) → found_in m q ≡ option_map (λ e. e.1) (find (λ e. bytes_eq e.0 q) numbers)

-- what stands before the suffix names areas of this extent
abbrev pub stem_extent : Index Extent → List ℕ → List ℕ → Option Extent
stem_extent m suffix q =
    if ends_with nat_eq q suffix then found_in m (take (length q - length suffix) q) else None

abbrev pub area_number : Index Extent → List ℕ → Option ℕ
area_number m q =
    option_or (option_map (λ e. e.start) (stem_extent m (codes "$$Base") q))
    (option_map (λ e. e.end) (stem_extent m (codes "$$Limit") q))

abbrev pub number_by : RegionSymbols → List ℕ → Option ℕ
number_by s q = option_map (reduced_by s.boot) (option_or (found_in s.numbers q) (area_number s.extents q))

-- these are the region symbols of a placement of objects
abbrev pub AreSymbols : List Object → Placement → RegionSymbols → Type 0
AreSymbols os p s = (q : List ℕ) → number_by s q ≡ region_number os p q
