-- Which region of a scatter description takes each area, and in which order areas stand in a region (SDT
-- 2.50 Reference Guide, scatter loading; the order is this project's). Regions are named by their numbers in
-- the order of the description, counted from 0.
use Rattle.std.specs.Prelude.{◌≡◌, ℕ, zero, suc, ◌+◌, ◌*◌, Bool, true, false, not, ◌&&◌, nat_lt, ◌==◌, if◌then◌else◌, List, [], ◌∷◌, ◌++◌, length, map, slice_get, is_some, codes, Option, Some, None}
use Rattle.std.specs.List.{filter, filter_map, flat_map}
use Rattle.std.specs.Str.{bytes_eq}
use Rattle.std.specs.Ordering.{is_le, nat_cmp}
use Rattle.std.specs.Cmp.Lexicographic.{slice_cmp}
use Rattle.sdt_fault.specs.declared.refusal.Refusal.{Refusal}
use Rattle.sdt_fault.specs.declared.refusal.Refusal.TheVariants.{Unassigned, Ambiguous}
use Rattle.place_model.specs.declared.scatter.Choice.{Choice}
use Rattle.place_model.specs.declared.scatter.Choice.TheVariants as choice
use Rattle.place_model.specs.declared.scatter.Edge.{Edge}
use Rattle.place_model.specs.declared.scatter.Edge.TheVariants as edge
use Rattle.place_model.specs.declared.scatter.Kind.{Kind}
use Rattle.place_model.specs.declared.scatter.Kind.TheVariants as kind
use Rattle.place_model.specs.declared.scatter.ScatterBase.{ScatterBase}
use Rattle.place_model.specs.declared.scatter.ScatterBase.TheVariants.{At, Plus}
use Rattle.place_model.specs.declared.scatter.ScatterLoad.{ScatterLoad}
use Rattle.place_model.specs.declared.scatter.ScatterRegion.{ScatterRegion}
use Rattle.place_model.specs.declared.scatter.Selection.{Selection}
use Rattle.place_model.specs.Items.{Item, is_code, is_zero_initialised, is_read_only}

-- ---- the regions of an image

-- without a scatter description: of any module the areas of a class
abbrev pub class_region : List ℕ → ScatterBase → Choice → ScatterRegion
class_region name base class = record {
  name = name;
  base = base;
  max = None;
  selections = (record { line = 0; «module» = None; choice = class; edge = edge.Plain }) ∷ [];
}

abbrev pub plain_regions : ℕ → List ScatterRegion
plain_regions base =
    class_region (codes "RO") (At base) choice.Ro ∷ class_region (codes "RW") (Plus 0) choice.Rw
    ∷ class_region (codes "ZI") (Plus 0) choice.Zi ∷ []

abbrev pub plain_load : ℕ → ScatterLoad
plain_load base = record { name = []; base = base; max = None; regions = plain_regions base }

abbrev pub description : Kind → List ScatterLoad
description (kind.Scatter s) = s.loads
description (kind.Plain base) = plain_load base ∷ []
description (kind.Aif base relocatable) = plain_load base ∷ []

abbrev pub described_regions : Kind → List ScatterRegion
described_regions k = flat_map (λ l. l.regions) (description k)

-- ---- selections

-- a selection of the region of a number
pub record Offer : Type 0 where
  pub region : ℕ
  pub selection : Selection

-- of regions that are counted from k on
abbrev pub offers_from : ℕ → List ScatterRegion → List Offer
offers_from k [] = []
offers_from k (r ∷ regions) = map (λ s. record { region = k; selection = s }) r.selections ++ offers_from (suc k) regions

abbrev pub offers_of : Kind → List Offer
offers_of k = offers_from 0 (described_regions k)

-- zero-initialised areas, the read-only ones among the others, and the rest
abbrev pub takes : Choice → Item → Bool
takes (choice.Named name) i = bytes_eq i.name name
takes choice.Ro i = not (is_zero_initialised i) && is_read_only i
takes choice.Rw i = not (is_zero_initialised i) && not (is_read_only i)
takes choice.Zi i = is_zero_initialised i

abbrev pub is_of : Option (List ℕ) → Item → Bool
is_of None i = true
is_of (Some home) i = bytes_eq i.«module» home

abbrev pub matches : Selection → Item → Bool
matches s i = is_of s.«module» i && takes s.choice i

abbrev pub is_named : Choice → Bool
is_named (choice.Named name) = true
is_named _ = false

-- the best first: a module and an area by name, a module by name, an area by name, and neither
abbrev pub rank : Selection → ℕ
rank s = (if is_some s.«module» then 0 else 2) + (if is_named s.choice then 0 else 1)

abbrev pub at_rank : ℕ → List Offer → Item → List Offer
at_rank n offers i = filter (λ o. rank o.selection == n && matches o.selection i) offers

abbrev pub first_filled : List (List Offer) → List Offer
first_filled [] = []
first_filled ([] ∷ rest) = first_filled rest
first_filled ((o ∷ os) ∷ rest) = o ∷ os

-- those that match the area and that none which matches it surpasses
abbrev pub best : List Offer → Item → List Offer
best offers i = first_filled (at_rank 0 offers i ∷ at_rank 1 offers i ∷ at_rank 2 offers i ∷ at_rank 3 offers i ∷ [])

pub data Found : Type 0 where
  Nowhere : Found
  Within : Offer → Found
  Unclear : Offer → Offer → Found

abbrev pub found : List Offer → Found
found [] = Nowhere
found (o ∷ []) = Within o
found (o ∷ p ∷ rest) = Unclear o p

-- ---- areas without a region or with two, where `name` has the names of objects in reports

abbrev pub refused : List ℕ → Item → Found → Option Refusal
refused name i Nowhere = Some (Unassigned name i.name)
refused name i (Within o) = None
refused name i (Unclear o p) = Some (Ambiguous name i.name o.selection.line p.selection.line)

-- the first, in input order
abbrev pub assignment_refusal : (ℕ → List ℕ) → List Offer → List Item → Option Refusal
assignment_refusal name offers items = slice_get (filter_map (λ i. refused (name i.object) i (found (best offers i))) items) 0

-- ---- the order in a region

-- an area with the edge of its selection
pub record Kept : Type 0 where
  pub item : Item
  pub edge : Edge

abbrev pub edge_number : Edge → ℕ
edge_number edge.First = 0
edge_number edge.Plain = 1
edge_number edge.Last = 2

-- read-only code, read-only data, read-write code, read-write data
abbrev pub class_number : Item → ℕ
class_number i = (if is_read_only i then 0 else 2) + (if is_code i then 0 else 1)

-- zero-initialised areas stand last, and in both parts areas by edge and then by class
abbrev pub order_number : Kept → ℕ
order_number k = (if is_zero_initialised k.item then 12 else 0) + 4 * edge_number k.edge + class_number k.item

-- then by name
abbrev pub may_precede : Kept → Kept → Bool
may_precede k l =
    if nat_lt (order_number k) (order_number l) then true
    else order_number k == order_number l && is_le (slice_cmp nat_cmp k.item.name l.item.name)

-- and then by input: an area comes to stand before the first that it may precede
abbrev pub put_in : Kept → List Kept → List Kept
put_in k [] = k ∷ []
put_in k (l ∷ ls) = if may_precede k l then k ∷ l ∷ ls else l ∷ put_in k ls

abbrev pub in_order : List Kept → List Kept
in_order [] = []
in_order (k ∷ ks) = put_in k (in_order ks)

-- ---- the areas of each region

abbrev pub kept_by : ℕ → Item → Found → Option Kept
kept_by region i Nowhere = None
kept_by region i (Within o) = if o.region == region then Some (record { item = i; edge = o.selection.edge }) else None
kept_by region i (Unclear o p) = None

abbrev pub areas_of : List Offer → List Item → ℕ → List Item
areas_of offers items region = map (λ k. k.item) (in_order (filter_map (λ i. kept_by region i (found (best offers i))) items))

-- of so many regions, which are counted from k on
abbrev pub lists_from : List Offer → List Item → ℕ → ℕ → List (List Item)
lists_from offers items k zero = []
lists_from offers items k (suc n) = areas_of offers items k ∷ lists_from offers items (suc k) n

abbrev pub lists_of : Kind → List Item → List (List Item)
lists_of k items = lists_from (offers_of k) items 0 (length (described_regions k))

-- each area is in the region of its one best selection, and each list in the region's order
pub record AreAssigned (k : Kind) (items : List Item) (lists : List (List Item)) : Type 0 where
  pub all : (name : ℕ → List ℕ) → assignment_refusal name (offers_of k) items ≡ None
  pub each : lists ≡ lists_of k items
