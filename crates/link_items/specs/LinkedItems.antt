-- The areas of linked objects as placing looks at them (place_model), and what the regions of a link contain.
-- This project's.
use Rattle.std.specs.Prelude.{ℕ, suc, Bool, true, false, List, [], ◌∷◌, ◌++◌, map, slice_get, Option}
use Rattle.std.specs.List.{filter_map}
use Rattle.std.specs.Option.{option_map, option_and_then}
use Rattle.aof_object.specs.declared.records.Area.{Area}
use Rattle.aof_object.specs.declared.records.Object.{Object}
use Rattle.link_model.specs.declared.placing.AreaName.{AreaName}
use Rattle.link_model.specs.declared.placing.Veneer.{Veneer}
use Rattle.link_model.specs.declared.selection.Named.{Named}
use Rattle.place_model.specs.declared.scatter.Kind.{Kind}
use Rattle.place_model.specs.declared.scatter.Kind.TheVariants as kind
use Rattle.place_model.specs.Items.{Item}
use Rattle.place_model.specs.Plans.{RegionVeneer, Contents}

-- ---- areas

-- the area of a number, in the object of a number and of a module
abbrev pub item_of : ℕ → List ℕ → ℕ → Area → Item
item_of object home k a = record {
  object = object;
  area = k;
  «module» = home;
  name = a.name;
  attributes = a.attributes;
  size = a.size;
}

-- of an object's areas, which are counted from k on
abbrev pub items_of : ℕ → List ℕ → ℕ → List Area → List Item
items_of object home k [] = []
items_of object home k (a ∷ areas) = item_of object home k a ∷ items_of object home (suc k) areas

-- of objects, which are counted from i on
abbrev pub items_from : ℕ → List (Named Object) → List Item
items_from i [] = []
items_from i (o ∷ os) = items_of i o.«module» 0 o.value.areas ++ items_from (suc i) os

abbrev pub items_in : List (Named Object) → List Item
items_in os = items_from 0 os

abbrev pub item_in : AreaName → Named Object → Option Item
item_in a o = option_map (item_of a.object o.«module» a.area) (slice_get o.value.areas a.area)

-- the area of a name, if there is one
abbrev pub item_at : List (Named Object) → AreaName → Option Item
item_at os a = option_and_then (item_in a) (slice_get os a.object)

abbrev pub name_of : Item → AreaName
name_of i = record { object = i.object; area = i.area }

-- ---- what the regions contain

abbrev pub region_veneer : Veneer → RegionVeneer
region_veneer v = record {
  region = v.region;
  target = record { object = v.area.object; area = v.area.area; offset = v.offset };
  thumb = v.thumb;
}

-- the areas of each region, and the veneers
abbrev pub contents_of : List (Named Object) → List (List AreaName) → List Veneer → Contents
contents_of os regions veneers = record {
  areas = map (filter_map (item_at os)) regions;
  veneers = map region_veneer veneers;
}

-- an ARM image file has a header, which calls the entry
abbrev pub has_header : Kind → Bool
has_header (kind.Aif base relocatable) = true
has_header _ = false
