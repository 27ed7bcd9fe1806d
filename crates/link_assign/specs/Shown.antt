-- What the values of the search for regions stand for, and the selections of regions that no description
-- describes. This project's.
use Rattle.std.specs.Prelude.{ℕ, ◌==◌, if◌then◌else◌, List, map, Option, Some, None}
use Rattle.std.specs.List.{filter_map}
use Rattle.place_model.specs.declared.scatter.Choice.{Choice}
use Rattle.place_model.specs.declared.scatter.Edge.TheVariants as edge
use Rattle.place_model.specs.declared.scatter.Selection.{Selection}
use Rattle.place_model.specs.Items as placing
use Rattle.place_model.specs.Assignment as assignment
use Rattle.link_items.specs.LinkedItems.{item_of}
use Rattle.link_assign.specs.declared.items.Item.{Item}
use Rattle.link_assign.specs.declared.offers.Offer.{Offer}
use Rattle.link_assign.specs.declared.keeping.Kept.{Kept}

abbrev pub shown_item : Item → placing.Item
shown_item i = item_of i.name.object i.home.now i.name.area i.area.now

abbrev pub shown_offer : Offer → assignment.Offer
shown_offer o = record { region = o.region; selection = o.selection.now }

-- the selections of the region of a number
abbrev pub offered : ℕ → List Selection → List assignment.Offer
offered region selections = map (λ s. record { region = region; selection = s }) selections

abbrev pub shown_kept : Kept → assignment.Kept
shown_kept k = record { item = shown_item k.item; edge = k.edge }

abbrev pub kept_here : ℕ → Kept → Option assignment.Kept
kept_here region k = if k.region == region then Some (shown_kept k) else None

-- those that the region of a number keeps
abbrev pub kept_in : ℕ → List Kept → List assignment.Kept
kept_in region ks = filter_map (kept_here region) ks

-- the selection of a class of areas of any module
abbrev pub of_class : Choice → Selection
of_class class = record { line = 0; «module» = None; choice = class; edge = edge.Plain }
