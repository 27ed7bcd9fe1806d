-- What a link of selected objects is: the first refusal in the order of its parts (regions of areas, veneers, places,
-- relocations), or all that these give (SDT 2.50 Reference Guide, armlink; the order is this project's).
use Rattle.std.specs.Prelude.{ℕ, List, map, Option, Result, Ok}
use Rattle.sdt_word.specs.declared.ranges.Range32.{Range32}
use Rattle.sdt_fault.specs.declared.refusal.Refusal.{Refusal}
use Rattle.chunk_file.specs.Reading.{◌>>=◌}
use Rattle.link_model.specs.declared.placing.Assigned.{Assigned}
use Rattle.link_model.specs.declared.placing.Placement.{Placement}
use Rattle.link_model.specs.declared.placing.Veneer.{Veneer}
use Rattle.link_model.specs.declared.selection.Linked.{Linked}
use Rattle.link_model.specs.RegionNames.{names_of_plain, names_of_scatter}
use Rattle.place_model.specs.declared.scatter.Kind.{Kind}
use Rattle.place_model.specs.declared.scatter.Kind.TheVariants as kind
use Rattle.place_model.specs.Assignment.{described_regions}
use Rattle.link_items.specs.LinkedItems.{contents_of, has_header}
use Rattle.link_assign.specs.Assigning.{assignment_of}
use Rattle.link_veneer.specs.Planning.{planned_veneers}
use Rattle.link_place.specs.Placed.{placed}
use Rattle.link_apply.specs.Applied.{applied}
use Rattle.armlink_core.specs.declared.making.PlacedImage.{PlacedImage}

-- the region symbols that an image of a form has
abbrev pub symbols_of : Kind → List (List ℕ)
symbols_of (kind.Scatter s) = names_of_scatter (map (λ r. r.name) (described_regions (kind.Scatter s)))
symbols_of (kind.Plain base) = names_of_plain
symbols_of (kind.Aif base relocatable) = names_of_plain

abbrev pub made_at : Linked → Assigned → List Veneer → Placement → Result PlacedImage Refusal
made_at l a vs p = applied l p >>= λ bytes. Ok (record { linked = l; assigned = a; veneers = vs; placement = p; bytes = bytes })

abbrev pub made_with : Kind → Option (List Range32) → Linked → Assigned → Result PlacedImage Refusal
made_with k ram l a =
    planned_veneers l a (has_header k) >>= λ vs. placed k ram (contents_of l.objects a.regions vs) >>= λ p. made_at l a vs p

abbrev pub made_of : Kind → Option (List Range32) → Linked → Result PlacedImage Refusal
made_of k ram l = assignment_of k l.objects >>= λ a. made_with k ram l a
