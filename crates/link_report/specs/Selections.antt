-- What a report tells of the selections of a description that took no area, by their lines (SDT 2.50 Reference Guide, scatter
-- loading; the text is this project's).
use Rattle.std.specs.Prelude.{ℕ, ◌==◌, ◌&&◌, Bool, false, if◌then◌else◌, List, [], ◌∷◌, codes, Option, Some, None}
use Rattle.std.specs.Fmt.{decimal}
use Rattle.std.specs.List.{flat_map, list_any}
use Rattle.aof_object.specs.declared.records.Object.{Object}
use Rattle.place_model.specs.declared.scatter.Choice.{Choice}
use Rattle.place_model.specs.declared.scatter.Choice.TheVariants as choice
use Rattle.place_model.specs.declared.scatter.Kind.{Kind}
use Rattle.place_model.specs.declared.scatter.Kind.TheVariants as kind
use Rattle.place_model.specs.declared.scatter.ScatterLoad.{ScatterLoad}
use Rattle.place_model.specs.declared.scatter.ScatterRegion.{ScatterRegion}
use Rattle.place_model.specs.declared.scatter.Selection.{Selection}
use Rattle.place_model.specs.Assignment.{Offer, best, matches, offers_from, rank}
use Rattle.place_model.specs.Items.{Item}
use Rattle.link_model.specs.declared.selection.Named.{Named}
use Rattle.link_items.specs.LinkedItems.{items_in}
use Rattle.link_report.specs.Lines.{line}

-- ---- which took one

-- as good as the best selections of an area
abbrev pub is_as_good : Selection → List Offer → Bool
is_as_good s [] = false
is_as_good s (o ∷ os) = rank s == rank o.selection

-- an area is taken by what matches it as well as the best of these do
abbrev pub takes_area : List Offer → Selection → Item → Bool
takes_area offers s i = is_as_good s (best offers i) && matches s i

abbrev pub has_taken : List Offer → List Item → Selection → Bool
has_taken offers items s = list_any (takes_area offers s) items

-- ---- lines

abbrev pub module_text : Option (List ℕ) → List ℕ
module_text None = codes "*"
module_text (Some home) = home

abbrev pub choice_text : Choice → List ℕ
choice_text (choice.Named name) = name
choice_text choice.Ro = codes "+RO"
choice_text choice.Rw = codes "+RW"
choice_text choice.Zi = codes "+ZI"

-- with its line of the description, in decimal, and the region that it is of
abbrev pub unused_line : List ℕ → Selection → List ℕ
unused_line region s =
    line (codes "unused" ∷ decimal s.line ∷ region ∷ module_text s.«module» ∷ choice_text s.choice ∷ [])

abbrev pub unused_text : (Selection → Bool) → List ℕ → Selection → List ℕ
unused_text taken region s = if taken s then [] else unused_line region s

abbrev pub region_unused : (Selection → Bool) → ScatterRegion → List ℕ
region_unused taken r = flat_map (unused_text taken r.name) r.selections

abbrev pub load_unused : (Selection → Bool) → ScatterLoad → List ℕ
load_unused taken l = flat_map (region_unused taken) l.regions

-- of a description's load regions, in its order
abbrev pub described_text : List ScatterLoad → List (Named Object) → List ℕ
described_text loads os = flat_map (load_unused (has_taken (offers_from 0 (flat_map (λ l. l.regions) loads)) (items_in os))) loads

-- without a description there are none
abbrev pub selections_text : Kind → List (Named Object) → List ℕ
selections_text (kind.Scatter s) os = described_text s.loads os
selections_text (kind.Plain base) os = []
selections_text (kind.Aif base relocatable) os = []
