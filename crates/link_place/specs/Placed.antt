-- Where the areas, veneers and the startup code of a link stand: as they do in the plan, if nothing is wrong
-- with that (SDT 2.50 Reference Guide, scatter loading; the startup code is this project's).
use Rattle.std.specs.Prelude.{ℕ, suc, List, [], ◌∷◌, ◌++◌, map, Option, Some, None, Result, Ok, Err}
use Rattle.std.specs.List.{flat_map}
use Rattle.sdt_word.specs.declared.ranges.Range32.{Range32}
use Rattle.sdt_fault.specs.declared.refusal.Refusal.{Refusal}
use Rattle.link_model.specs.declared.placing.PlacedArea.{PlacedArea}
use Rattle.link_model.specs.declared.placing.PlacedVeneer.{PlacedVeneer}
use Rattle.link_model.specs.declared.placing.Placement.{Placement}
use Rattle.link_model.specs.declared.placing.Region.{Region}
use Rattle.place_model.specs.declared.scatter.Kind.{Kind}
use Rattle.place_model.specs.Things.{Thing, AnArea, AVeneer}
use Rattle.place_model.specs.Plans.{Contents, Planned, length_of, zero_length_of, Plan, regions_of, plan_of, stood_in, boot_address}
use Rattle.place_model.specs.Faults.{place_refusal}

-- a region of the load region of a number
abbrev pub placed_region : ℕ → Planned → Region
placed_region number r = record {
  name = r.name;
  load_region = number;
  load = r.load;
  base = r.base;
  length = length_of r;
  zero = zero_length_of r;
}

-- of load regions that are counted from a number on
abbrev pub placed_regions : ℕ → Plan → List Region
placed_regions number [] = []
placed_regions number (l ∷ loads) = map (placed_region number) l.regions ++ placed_regions (suc number) loads

-- what stands in the region of a number
abbrev pub area_of : ℕ → Thing → ℕ → List PlacedArea
area_of region (AnArea i) address = (record { area = record { object = i.object; area = i.area }; region = region; address = address }) ∷ []
area_of region _ address = []

abbrev pub veneer_of : ℕ → Thing → ℕ → List PlacedVeneer
veneer_of region (AVeneer target thumb) address =
    (record {
      veneer = record { region = region; area = record { object = target.object; area = target.area }; offset = target.offset; thumb = thumb };
      address = address;
    }) ∷ []
veneer_of region _ address = []

abbrev pub areas_of : Planned → List PlacedArea
areas_of r = flat_map (λ s. area_of r.number s.thing s.address) (stood_in r)

abbrev pub veneers_of : Planned → List PlacedVeneer
veneers_of r = flat_map (λ s. veneer_of r.number s.thing s.address) (stood_in r)

abbrev pub placement_of : Plan → Placement
placement_of p = record {
  regions = placed_regions 0 p;
  areas = flat_map areas_of (regions_of p);
  veneers = flat_map veneers_of (regions_of p);
  boot = boot_address p;
}

abbrev pub told : Option Refusal → Plan → Result Placement Refusal
told None p = Ok (placement_of p)
told (Some r) p = Err r

abbrev pub placed : Kind → Option (List Range32) → Contents → Result Placement Refusal
placed k ram c = told (place_refusal k ram (plan_of k c)) (plan_of k c)
