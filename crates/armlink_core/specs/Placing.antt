-- A link whose objects are placed, which all that is told of a link is made of: the refusals of selection, then that of a
-- description that can't be read, then those of the placement and of the relocations (SDT 2.50 Reference Guide, armlink; the order
-- is this project's).
use Rattle.std.specs.Prelude.{ℕ, ◌^◌, ◌≤◌, ◌+◌, List, Option, Some, None, Result, Ok, Err, sum_by}
use Rattle.std.specs.List.{AllByRecursion}
use Rattle.sdt_word.specs.declared.ranges.Range32.{Range32}
use Rattle.sdt_fault.specs.declared.refusal.Refusal.{Refusal}
use Rattle.chunk_file.specs.Reading.{◌>>=◌}
use Rattle.aof_object.specs.declared.records.Object.{Object}
use Rattle.link_model.specs.declared.selection.Named.{Named}
use Rattle.place_model.specs.declared.scatter.Kind.{Kind}
use Rattle.place_model.specs.declared.scatter.Kind.TheVariants as kind
use Rattle.place_model.specs.declared.scatter.Scatter.{Scatter}
use Rattle.scatter_text.specs.Reading.{scatter_of}
use Rattle.link_select.specs.Selection.{selection_of}
use Rattle.armlink_core.specs.declared.making.PlacedImage.{PlacedImage}
use Rattle.armlink_core.specs.declared.placing.PlacedLink.{PlacedLink}
use Rattle.armlink_core.specs.Linking.{made_of, symbols_of}
use Rattle.armlink_core.specs.Sizes.{region_size}

-- as an image of a form
abbrev pub placing : Kind → Option (List Range32) → List (Named Object) → Result PlacedImage Refusal
placing k ram os = selection_of (Some (symbols_of k)) os >>= λ l. made_of k ram l

abbrev pub as_link : Kind → PlacedImage → PlacedLink
as_link k parts = record { kind = k; parts = parts }

abbrev pub placed_link : Kind → Option (List Range32) → List (Named Object) → Result PlacedLink Refusal
placed_link k ram os = placing k ram os >>= λ parts. Ok (as_link k parts)

-- by the description that a text spells, or else without one, with all names of a region symbol's form defined
abbrev pub placed_by : Result Scatter Refusal → Option (List Range32) → List (Named Object) → Result PlacedLink Refusal
placed_by (Ok s) ram os = placed_link (kind.Scatter s) ram os
placed_by (Err r) ram os = selection_of None os >>= λ l. Err r

abbrev pub placed_scatter : List ℕ → Option (List Range32) → List (Named Object) → Result PlacedLink Refusal
placed_scatter text ram os = placed_by (scatter_of text) ram os

-- its regions have 64 MiB together, and each
pub record IsRoomy (parts : PlacedImage) : Type 0 where
  pub whole : sum_by region_size parts.placement.regions ≤ 2 ^ 26
  pub each : AllByRecursion (λ r. r.length + r.zero ≤ 2 ^ 26) parts.placement.regions
