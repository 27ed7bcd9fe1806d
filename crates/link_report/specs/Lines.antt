-- The lines of a report and what their fields are made of: eight upper-case hexadecimal digits, states, and the names of
-- objects and areas as they are. This project's.
use Rattle.std.specs.Prelude.{ℕ, ◌+◌, ◌%◌, ◌^◌, Bool, if◌then◌else◌, List, ◌++◌, slice_get, codes, Option, Some, None}
use Rattle.std.specs.List.{join_with_byte}
use Rattle.sdt_fault.specs.Digits.{hexadecimal_places}
use Rattle.aof_object.specs.declared.records.Area.{Area}
use Rattle.aof_object.specs.declared.records.Object.{Object}
use Rattle.link_model.specs.declared.placing.AreaName.{AreaName}
use Rattle.link_model.specs.declared.placing.Placement.{Placement}
use Rattle.link_model.specs.declared.selection.Named.{Named}
use Rattle.link_model.specs.Members.{objects_in}
use Rattle.link_model.specs.RegionValues.{area_of}
use Rattle.link_values.specs.Placed.{base_in}

-- a line with its line feed, of fields with one space between
abbrev pub line : List (List ℕ) → List ℕ
line fields = join_with_byte 32 fields ++ codes "\n"

-- the last eight digits
unfoldable pub eight : ℕ → List ℕ
eight n = hexadecimal_places 8 n

abbrev pub state_word : Bool → List ℕ
state_word thumb = if thumb then codes "THUMB" else codes "ARM"

-- ---- names

abbrev pub name_of_object : Option (Named Object) → List ℕ
name_of_object None = codes "-"
name_of_object (Some o) = o.name

abbrev pub object_name : List (Named Object) → ℕ → List ℕ
object_name os object = name_of_object (slice_get os object)

abbrev pub name_of_area : Option Area → List ℕ
name_of_area None = codes "-"
name_of_area (Some a) = a.name

abbrev pub attributes_of : Option Area → ℕ
attributes_of None = 0
attributes_of (Some a) = a.attributes

-- the area of a name
abbrev pub area_at : List (Named Object) → AreaName → Option Area
area_at os a = area_of (objects_in os) a

-- ---- addresses

-- of an offset in an area
abbrev pub place_of : Placement → AreaName → ℕ → ℕ
place_of p a offset = (base_in p a.object a.area + offset) % 2 ^ 32
