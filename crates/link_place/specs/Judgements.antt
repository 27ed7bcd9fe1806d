-- What is told of a layout, and the placement that it is. This project's.
use Rattle.std.specs.Prelude.{ℕ, ◌≡◌, ◌+◌, ◌*◌, List, length, map, sum_by, Option, Some, None}
use Rattle.std.specs.List.{flat_map}
use Rattle.std.specs.Option.{option_map, option_or}
use Rattle.sdt_word.specs.declared.ranges.Range32.{Range32}
use Rattle.sdt_fault.specs.declared.refusal.Refusal.{Refusal}
use Rattle.link_model.specs.declared.placing.Placement.{Placement}
use Rattle.place_model.specs.declared.scatter.Kind.{Kind}
use Rattle.place_model.specs.declared.scatter.Kind.TheVariants as kind
use Rattle.place_model.specs.Faults.{first_told, overfull, as_overlap, as_conflict}
use Rattle.link_place.specs.declared.layouts.Layout.{Layout}
use Rattle.link_place.specs.declared.parts.Part.{Part}
use Rattle.place_model.specs.Plans.{origin_of}
use Rattle.link_place.specs.declared.parts.Input.{Input}
use Rattle.link_place.specs.Parts.{contents_in, parts_of, groups_of}
use Rattle.link_place.specs.Layouts.{layout_of, size_of}
use Rattle.link_place.specs.Checks.{rootless, judged_by, overlap_of, conflict_of, too_large_by}
use Rattle.link_place.specs.Writable.{first_unwritable_by}
use Rattle.link_place.specs.Placings.{area_at, veneer_at, boot_in, all_seats}

abbrev pub unwritable_of : Option (List Range32) → ℕ → List Part → Layout → Option Refusal
unwritable_of None origin ps o = None
unwritable_of (Some ram) origin ps o = first_unwritable_by ram o.words origin ps o.regions

abbrev pub refusal_of_ranges : Kind → Option (List Range32) → ℕ → List Part → Layout → Option Refusal
refusal_of_ranges k ram origin ps o =
    option_or (option_map as_overlap (overlap_of o.loads o.regions))
    (option_or (option_map as_conflict (conflict_of o.regions))
    (option_or (too_large_by k (sum_by size_of o.regions)) (unwritable_of ram origin ps o)))

abbrev pub refusal_of_layout : Kind → Option (List Range32) → ℕ → List Part → Layout → Option Refusal
refusal_of_layout k ram origin ps o =
    option_or (rootless o.regions) (option_or (first_told overfull (judged_by o.loads o.regions)) (refusal_of_ranges k ram origin ps o))

-- a region has at most five words of rows
abbrev pub most_of : Kind → List Part → ℕ
most_of (kind.Scatter s) ps = 5 * length ps + 6
most_of _ ps = 0

abbrev pub placement_by : ℕ → List Part → Layout → Placement
placement_by origin ps o = record {
  regions = map (λ l. l.region) o.regions;
  areas = flat_map area_at (all_seats o.words origin 0 ps o.regions);
  veneers = flat_map veneer_at (all_seats o.words origin 0 ps o.regions);
  boot = boot_in (all_seats o.words origin 0 ps o.regions);
}

-- the layout with the least table
pub record IsLeast (input : Input) (o : Layout) : Type 0 where
  pub layout : o ≡ layout_of (origin_of input.kind.now) (groups_of input.kind.now) (parts_of input.kind.now (contents_in input)) (most_of input.kind.now (parts_of input.kind.now (contents_in input)))
