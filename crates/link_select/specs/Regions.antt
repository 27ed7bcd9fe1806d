-- Region symbols by indexes of names. This project's.
use Rattle.std.specs.Prelude.{ℕ, ◌-◌, Bool, true, if◌then◌else◌, ◌||◌, ◌&&◌, is_some, nat_eq, List, length, take, codes, Option, Some, None}
use Rattle.std.specs.List.{ends_with}
use Rattle.aof_object.specs.declared.records.Object.{Object}
use Rattle.link_model.specs.RegionNames.{has_region_form, names_of_areas}
use Rattle.link_select.specs.declared.regions.RegionSymbols.{RegionSymbols}
use Rattle.link_select.specs.declared.regions.RegionSymbols.TheVariants.{AnyOfTheForm, Listed}
use Rattle.link_select.specs.Index.{Numbers, number_in, IsSetOf}

-- what stands before the suffix is in the index
abbrev pub stem_in : Numbers → List ℕ → List ℕ → Bool
stem_in m suffix q = ends_with nat_eq q suffix && is_some (number_in m (take (length q - length suffix) q))

abbrev pub region_by : RegionSymbols → List ℕ → Bool
region_by AnyOfTheForm q = has_region_form q
region_by (Listed names areas) q = is_some (number_in names q) || (stem_in areas (codes "$$Base") q || stem_in areas (codes "$$Limit") q)

-- these are the region symbols that the image has
abbrev pub Shows : Option (List (List ℕ)) → List Object → RegionSymbols → Type 0
Shows None os AnyOfTheForm = Unit {0}
Shows None os (Listed names areas) = ⊥
Shows (Some listed) os AnyOfTheForm = ⊥
Shows (Some listed) os (Listed names areas) = IsSetOf listed names × IsSetOf (names_of_areas os) areas

-- a name that an object of the index exports, or a region symbol
abbrev pub known_by : Numbers → RegionSymbols → List ℕ → Bool
known_by exports symbols q = if is_some (number_in exports q) then true else region_by symbols q
