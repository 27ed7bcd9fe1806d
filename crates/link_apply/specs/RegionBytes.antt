-- The bytes of a region before its zero part: areas with their fields patched, veneers, and in the first region of a
-- scatter image the startup code with its table; zeros between them, in the place of an ARM image file's header, and up to
-- the region's length (SDT 2.50 Reference Guide, armlink; veneers and the startup code are this project's).
use Rattle.std.specs.Prelude.{ℕ, zero, suc, ◌+◌, ◌-◌, ◌%◌, ◌^◌, Bool, not, ◌&&◌, nat_lt, ◌==◌, if◌then◌else◌, List, [], ◌∷◌, ◌++◌, length, map, Option, Some, None}
use Rattle.std.specs.List.{filter, filter_map}
use Rattle.sdt_word.specs.Numbers.{bit, flag}
use Rattle.aof_object.specs.declared.records.Area.{Area}
use Rattle.boot_code.specs.declared.rows.CopyRow.{CopyRow}
use Rattle.boot_code.specs.declared.rows.ZeroRow.{ZeroRow}
use Rattle.boot_code.specs.Startup.{table_list, zeros}
use Rattle.boot_code.specs.Words.{boot_list}
use Rattle.boot_code.specs.Maps.{bytes_of_words}
use Rattle.link_model.specs.declared.placing.PlacedArea.{PlacedArea}
use Rattle.link_model.specs.declared.placing.PlacedVeneer.{PlacedVeneer}
use Rattle.link_model.specs.declared.placing.Placement.{Placement}
use Rattle.link_model.specs.declared.placing.Region.{Region}
use Rattle.link_model.specs.Members.{Link}
use Rattle.link_model.specs.RegionValues.{area_of}
use Rattle.link_values.specs.Placed.{base_in, values_in}
use Rattle.link_apply.specs.Placed.{target_in}
use Rattle.link_apply.specs.PatchedBytes.{patched_bytes, veneer_bytes}

-- ---- pieces: an address, and the bytes from there on

abbrev pub Piece : Type 0
Piece = ℕ × List ℕ

-- from an address on, with zeros before each piece
abbrev pub laid : ℕ → List Piece → List ℕ
laid at [] = []
laid at ((address, bytes) ∷ pieces) = zeros (address - at) ++ (bytes ++ laid (address + length bytes) pieces)

-- with zeros up to a length
abbrev pub filled_up : ℕ → List ℕ → List ℕ
filled_up size bytes = bytes ++ zeros (size - length bytes)

-- ---- areas and veneers

-- an area that isn't zero-initialised
abbrev pub area_piece : Link → Placement → PlacedArea → Option Area → Option Piece
area_piece l p placed None = None
area_piece l p placed (Some a) =
    if bit a.attributes 12 == 1 then None
    else Some (placed.address, patched_bytes p (values_in l p placed.area.object) placed.region placed.address a)

abbrev pub area_pieces : Link → Placement → ℕ → List Piece
area_pieces l p region = filter_map (λ a. area_piece l p a (area_of l.objects a.area)) (filter (λ a. a.region == region) p.areas)

abbrev pub veneer_piece : Placement → PlacedVeneer → Piece
veneer_piece p v =
    (v.address, veneer_bytes v.address (target_in p (record { object = v.veneer.area.object; area = v.veneer.area.area; offset = v.veneer.offset })) v.veneer.thumb)

abbrev pub veneer_pieces : Placement → ℕ → List Piece
veneer_pieces p region = map (veneer_piece p) (filter (λ v. v.veneer.region == region) p.veneers)

-- ---- the startup code

abbrev pub is_copied : Region → Bool
is_copied r = not (r.load == r.base) && nat_lt 0 r.length

abbrev pub copy_rows : Placement → List CopyRow
copy_rows p = map (λ r. record { source = r.load; target = r.base; size = r.length }) (filter is_copied p.regions)

abbrev pub zero_rows : Placement → List ZeroRow
zero_rows p = map (λ r. record { base = r.base + r.length; size = r.zero }) (filter (λ r. nat_lt 0 r.zero) p.regions)

-- the entry's address, with bit 0 set for Thumb
abbrev pub entry_of : Link → Placement → ℕ
entry_of l p = (base_in p l.entry.object l.entry.area + l.entry.offset) % 2 ^ 32 + flag l.entry.thumb

abbrev pub startup_list : Link → Placement → List ℕ
startup_list l p = bytes_of_words (boot_list ++ table_list (copy_rows p) (zero_rows p) (entry_of l p))

-- it fills the first region
abbrev pub startup_from : Link → Placement → ℕ → Region → Piece
startup_from l p boot r = (boot, startup_list l p ++ zeros (r.base + r.length - boot - length (startup_list l p)))

abbrev pub startup_piece : Link → Placement → ℕ → Region → Option ℕ → List Piece
startup_piece l p zero r (Some boot) = startup_from l p boot r ∷ []
startup_piece l p region r boot = []

-- ---- a region of a number

abbrev pub region_bytes : Link → Placement → ℕ → Region → List ℕ
region_bytes l p region r =
    filled_up r.length (laid r.base (area_pieces l p region ++ (veneer_pieces p region ++ startup_piece l p region r p.boot)))

-- of regions that are counted from a number on
abbrev pub bytes_from : Link → Placement → ℕ → List Region → List (List ℕ)
bytes_from l p region [] = []
bytes_from l p region (r ∷ regions) = region_bytes l p region r ∷ bytes_from l p (suc region) regions

abbrev pub regions_bytes : Link → Placement → List (List ℕ)
regions_bytes l p = bytes_from l p 0 p.regions
