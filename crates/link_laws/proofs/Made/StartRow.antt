-- One scatter image that is made, whole: Thumb code that holds its own address and is entered at its begin, in one region at
-- 0x8000 with the startup code behind it. Each premise is met, and it starts.
use Rattle.std.proofs.Common.{◌≡◌, List, [], ◌∷◌, refl, None}
use Rattle.boot_code.specs.Boots.{Boots}
use Rattle.boot_code.specs.Laws.{bound_of, written_by}
use Rattle.boot_code.specs.Maps.{Segment, map_of}
use Rattle.place_model.specs.declared.scatter.Choice.TheVariants as choice
use Rattle.place_model.specs.declared.scatter.Kind.{Kind}
use Rattle.place_model.specs.declared.scatter.Kind.TheVariants as kind
use Rattle.place_model.specs.declared.scatter.Scatter.{Scatter}
use Rattle.place_model.specs.declared.scatter.ScatterBase.TheVariants.{At}
use Rattle.place_model.specs.Assignment.{description}
use Rattle.place_model.specs.Plans.{Plan}
use Rattle.place_model.proofs.Rows.{any, region}
use Rattle.image_model.specs.Views.{view_of, files_of}
use Rattle.link_model.specs.declared.placing.Assigned.{Assigned}
use Rattle.link_model.specs.declared.placing.Placement.{Placement}
use Rattle.link_model.specs.Members.{link_of}
use Rattle.link_place.specs.Placed.{placement_of}
use Rattle.link_apply.specs.RegionBytes.{regions_bytes}
use Rattle.link_laws.specs.Placing.{link_plan}
use Rattle.link_laws.specs.Joins.{IsMade, filled_in, files_from}
use Rattle.link_laws.proofs.Made.BytesLaws.{made_has_files}
use Rattle.link_laws.proofs.Made.Rows.{object, linked, valid, are_bytes}
use Rattle.link_laws.proofs.Made.Start.{made_boots}

abbrev scatter : Scatter
scatter = record { loads = (record { name = []; base = 0x8000; max = None; regions = region [] (At 0x8000) (any choice.Rw ∷ []) ∷ [] }) ∷ [] }

abbrev kind_of_image : Kind
kind_of_image = kind.Scatter scatter

abbrev assigned : Assigned
assigned = record { regions = (record { object = 0; area = 0 } ∷ []) ∷ [] }

abbrev plan : Plan
plan = link_plan kind_of_image linked assigned.regions []

abbrev placement : Placement
placement = placement_of plan

pub made : IsMade kind_of_image None linked assigned [] placement
made = record {
  valid = (valid, tt);
  bytes = ((are_bytes, tt), tt);
  loads = (refl, tt);
  bases = (refl, tt);
  entered = record { object = object; at = refl; entry = refl; state = refl };
  assigned = refl;
  planned = refl;
  placed = refl;
  sound = refl;
}

abbrev files : List Segment
files = files_of plan (filled_in linked placement plan)

of_regions : files ≡ files_from 0 placement.regions (regions_bytes (link_of linked) placement) (description kind_of_image)
of_regions = made_has_files kind_of_image None linked assigned [] placement made refl

pub boots : Boots (map_of files) (view_of plan (filled_in linked placement plan)) (written_by [] []) 0x8004 (bound_of [] []) 0x8001
boots = made_boots scatter None linked assigned [] placement 0x8004 made refl
