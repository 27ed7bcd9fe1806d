-- The regions of the areas of linked objects: the first area without a region or with two, in input order, or
-- else the areas of each region in their order (SDT 2.50 Reference Guide, scatter loading; the order is this
-- project's).
use Rattle.std.specs.Prelude.{ℕ, zero, suc, List, [], ◌∷◌, length, map, Result}
use Rattle.sdt_fault.specs.declared.refusal.Refusal.{Refusal}
use Rattle.aof_object.specs.declared.records.Object.{Object}
use Rattle.link_model.specs.declared.placing.AreaName.{AreaName}
use Rattle.link_model.specs.declared.placing.Assigned.{Assigned}
use Rattle.link_model.specs.declared.selection.Named.{Named}
use Rattle.link_model.specs.Options.{refused_or}
use Rattle.place_model.specs.declared.scatter.Kind.{Kind}
use Rattle.place_model.specs.Items.{Item}
use Rattle.place_model.specs.Assignment.{Offer, assignment_refusal, described_regions, in_order, lists_from, offers_of}
use Rattle.link_items.specs.LinkedItems.{items_in, name_of}
use Rattle.link_assign.specs.declared.keeping.Kept.{Kept}
use Rattle.link_assign.specs.Shown.{kept_in}
use Rattle.link_assign.specs.Keeping.{report_name}

abbrev pub named : List (List Item) → List (List AreaName)
named lists = map (map name_of) lists

-- with these selections of so many regions
abbrev pub assigned_by : List Offer → ℕ → List (Named Object) → Result Assigned Refusal
assigned_by offers count os =
    refused_or (assignment_refusal (report_name os) offers (items_in os))
    (record { regions = named (lists_from offers (items_in os) 0 count) })

abbrev pub assignment_of : Kind → List (Named Object) → Result Assigned Refusal
assignment_of k os = assigned_by (offers_of k) (length (described_regions k)) os

-- ---- regions in order, by what they keep

abbrev pub names_kept : List Kept → ℕ → List AreaName
names_kept ks region = map name_of (map (λ k. k.item) (in_order (kept_in region ks)))

-- of so many regions, which are counted from k on
abbrev pub lists_kept : List Kept → ℕ → ℕ → List (List AreaName)
lists_kept ks k zero = []
lists_kept ks k (suc n) = names_kept ks k ∷ lists_kept ks (suc k) n
