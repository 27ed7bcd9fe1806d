-- The addresses of areas by an index. This project's.
use Rattle.std.specs.Prelude.{◌≡◌, ℕ, Bool, ◌==◌, ◌&&◌, unwrap_or, List, Option}
use Rattle.std.specs.List.{find}
use Rattle.std.specs.Option.{option_map}
use Rattle.std.specs.declared.hash.FoldHasher.{FoldHasher}
use Rattle.std.specs.declared.hash.BuildHasherDefault.{BuildHasherDefault}
use Rattle.indexmap.specs.IndexMap.{IndexMap, get_by}
use Rattle.link_model.specs.declared.placing.AreaName.{AreaName}
use Rattle.link_model.specs.declared.placing.PlacedArea.{PlacedArea}
use Rattle.link_model.specs.declared.placing.Placement.{Placement}
use Rattle.link_model.specs.RegionValues.{reduced_by}
use Rattle.link_values.specs.declared.bases.AreaBases.{AreaBases}
use Rattle.link_values.specs.Placed.{is_area, base_in}

abbrev pub Addresses : Type 0
Addresses = IndexMap AreaName ℕ (BuildHasherDefault FoldHasher)

abbrev pub is_same : AreaName → AreaName → Bool
is_same a b = a.object == b.object && a.area == b.area

abbrev pub address_in : Addresses → AreaName → Option ℕ
address_in m a = get_by (is_same a) m

-- each area has the address, taken as it is in the image, that it has first among these
abbrev pub AreAddresses : Option ℕ → List PlacedArea → Addresses → Type 0
AreAddresses boot areas m =
    (a : AreaName) → address_in m a ≡ option_map (λ p. reduced_by boot p.address) (find (is_area a.object a.area) areas)

abbrev pub base_of : AreaBases → ℕ → ℕ → ℕ
base_of bases object area = unwrap_or (address_in bases.addresses (record { object = object; area = area })) 0

-- these are the addresses of the areas of a placement
abbrev pub AreBases : Placement → AreaBases → Type 0
AreBases p bases = (object area : ℕ) → base_of bases object area ≡ base_in p object area
