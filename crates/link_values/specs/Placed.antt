-- Where the areas of a placement stand, and the values that symbols have there (SDT 2.50 Reference Guide,
-- armlink). In a scatter image both are taken modulo 2^32, as region symbols are, and in another they are not
-- (this project's).
use Rattle.std.specs.Prelude.{ℕ, Bool, ◌&&◌, ◌==◌, unwrap_or, Option, Some, None}
use Rattle.std.specs.List.{find}
use Rattle.std.specs.Option.{option_map}
use Rattle.patch_model.specs.Fields.{Home, Meant, Values}
use Rattle.link_model.specs.declared.placing.PlacedArea.{PlacedArea}
use Rattle.link_model.specs.declared.placing.Placement.{Placement}
use Rattle.link_model.specs.Members.{Link}
use Rattle.link_model.specs.RegionValues.{reduced_by, region_number}
use Rattle.link_model.specs.Values.{values_of}

abbrev pub is_area : ℕ → ℕ → PlacedArea → Bool
is_area object area a = a.area.object == object && a.area.area == area

-- the address of an area, by the numbers of its object and its own
abbrev pub base_in : Placement → ℕ → ℕ → ℕ
base_in p object area = unwrap_or (option_map (λ a. reduced_by p.boot a.address) (find (is_area object area) p.areas)) 0

-- of a symbol that stands in an area; others have no address, or a reduced one
abbrev pub reduced_at : Option ℕ → Option Home → ℕ → ℕ
reduced_at boot None n = n
reduced_at boot (Some home) n = reduced_by boot n

abbrev pub reduced_meant : Option ℕ → Meant → Meant
reduced_meant boot m = record { number = reduced_at boot m.home m.number; thumb = m.thumb; datum = m.datum; home = m.home }

abbrev pub reduced_values : Option ℕ → Values → Values
reduced_values boot values = record { base = values.base; symbol = λ k. reduced_meant boot (values.symbol k) }

abbrev pub values_in : Link → Placement → ℕ → Values
values_in l p object = reduced_values p.boot (values_of l (region_number l.objects p) (base_in p) object)
