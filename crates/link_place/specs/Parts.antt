-- The regions of a description, each with the pieces that stand in it. This project's.
use Rattle.std.specs.Prelude.{ℕ, suc, ◌+◌, ◌%◌, ◌≤◌, Bool, true, false, not, ◌==◌, List, [], ◌∷◌, ◌++◌, length, map, slice_get, Option, Some, None}
use Rattle.std.specs.List.{filter, AllByRecursion}
use Rattle.std.specs.Option.{option_and_then}
use Rattle.aof_object.specs.declared.records.Area.{Area}
use Rattle.aof_object.specs.declared.records.Object.{Object}
use Rattle.link_model.specs.declared.placing.AreaName.{AreaName}
use Rattle.link_model.specs.declared.selection.Named.{Named}
use Rattle.place_model.specs.declared.scatter.Kind.{Kind}
use Rattle.place_model.specs.declared.scatter.Kind.TheVariants as kind
use Rattle.place_model.specs.declared.scatter.ScatterBase.{ScatterBase}
use Rattle.place_model.specs.declared.scatter.ScatterLoad.{ScatterLoad}
use Rattle.place_model.specs.declared.scatter.ScatterRegion.{ScatterRegion}
use Rattle.place_model.specs.Items.{Item, alignment, is_read_only, is_zero_initialised}
use Rattle.place_model.specs.Assignment.{described_regions}
use Rattle.place_model.specs.Things as things
use Rattle.place_model.specs.Things.{Thing, AnArea, AVeneer}
use Rattle.place_model.specs.Plans.{RegionVeneer, Contents, areas_in, veneers_in, header_in, startup_in}
use Rattle.link_place.specs.declared.parts.Input.{Input}
use Rattle.link_place.specs.declared.parts.Group.{Group}
use Rattle.link_place.specs.declared.parts.Part.{Part}
use Rattle.link_place.specs.declared.pieces.Piece.{Piece}
use Rattle.link_place.specs.declared.pieces.Piece.TheVariants as piece
use Rattle.link_items.specs.LinkedItems.{item_of, contents_of}

abbrev pub contents_in : Input → Contents
contents_in input = contents_of input.objects.now input.assigned.now input.veneers.now

-- ---- what stands in the region of a number

-- with a startup code that has no table
abbrev pub things_in : Kind → Contents → ℕ → List Thing
things_in k c region =
    header_in k region ++ (map AnArea (filter (λ i. not (is_zero_initialised i)) (areas_in c region)) ++ (veneers_in c region ++ startup_in k region 0))

abbrev pub zeros_in : Contents → ℕ → List Thing
zeros_in c region = map AnArea (filter is_zero_initialised (areas_in c region))

abbrev pub area_piece : Item → Piece
area_piece i = piece.Area (record { name = record { object = i.object; area = i.area }; multiple = alignment i; size = i.size; written = not (is_read_only i) })

abbrev pub belongs : Bool → Item → Bool
belongs true i = is_zero_initialised i
belongs false i = not (is_zero_initialised i)

abbrev pub area_pieces : Bool → List Item → List Piece
area_pieces zero items = map area_piece (filter (belongs zero) items)

-- the area of a name, if there is one, and whether it is a piece of this part
abbrev pub area_named : List (Named Object) → AreaName → Option Area
area_named os n = option_and_then (λ o. slice_get o.value.areas n.area) (slice_get os n.object)

abbrev pub pieces_by : Bool → AreaName → Option Area → List Piece
pieces_by zero n None = []
pieces_by zero n (Some a) = area_pieces zero (item_of n.object [] n.area a ∷ [])

abbrev pub veneer_piece : RegionVeneer → Piece
veneer_piece v = piece.Veneer (record {
  region = v.region;
  area = record { object = v.target.object; area = v.target.area };
  offset = v.target.offset;
  thumb = v.thumb;
})

-- the piece that a thing of the region of a number is
abbrev pub piece_of : ℕ → Thing → Piece
piece_of region things.Header = piece.Header
piece_of region (AnArea i) = area_piece i
piece_of region (AVeneer target thumb) = veneer_piece (record { region = region; target = target; thumb = thumb })
piece_of region (things.Startup words) = piece.Startup

abbrev pub veneer_pieces : ℕ → List RegionVeneer → List Piece
veneer_pieces region veneers = map veneer_piece (filter (λ v. v.region == region) veneers)

-- ---- all regions

abbrev pub part_by : Kind → Contents → ℕ → List ℕ → ScatterBase → Option ℕ → Part
part_by k c region name base maximum = record {
  name = name;
  base = base;
  maximum = maximum;
  things = map (piece_of region) (things_in k c region);
  zeros = map (piece_of region) (zeros_in c region);
}

-- counted from a number on
abbrev pub parts_from : Kind → Contents → ℕ → List ScatterRegion → List Part
parts_from k c region [] = []
parts_from k c region (r ∷ regions) = part_by k c region r.name r.base r.max ∷ parts_from k c (suc region) regions

abbrev pub parts_of : Kind → Contents → List Part
parts_of k c = parts_from k c 0 (described_regions k)

abbrev pub piece_count : Part → ℕ
piece_count p = length p.things + length p.zeros + 1

-- ---- load regions

abbrev pub load_group : ScatterLoad → Group
load_group l = record { name = Some l.name; base = l.base; maximum = l.max; count = length l.regions }

abbrev pub plain_group : ℕ → Group
plain_group base = record { name = None; base = base; maximum = None; count = 3 }

abbrev pub groups_of : Kind → List Group
groups_of (kind.Scatter s) = map load_group s.loads
groups_of (kind.Plain base) = plain_group base ∷ []
groups_of (kind.Aif base relocatable) = plain_group base ∷ []

-- ---- what callers meet

-- at most 2^16
abbrev pub IsAligned : Item → Type 0
IsAligned i = i.attributes % 256 ≤ 16

abbrev pub IsAlignedArea : Option Area → Type 0
IsAlignedArea None = Unit {0}
IsAlignedArea (Some a) = a.attributes % 256 ≤ 16

pub record AreAligned (c : Contents) : Type 0 where
  pub areas : AllByRecursion (λ items. AllByRecursion IsAligned items) c.areas
