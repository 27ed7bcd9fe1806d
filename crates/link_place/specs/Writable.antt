-- What is written outside RAM, by a layout and its parts. This project's.
use Rattle.std.specs.Prelude.{ℕ, ◌+◌, ◌&&◌, ◌==◌, nat_lt, Bool, false, not, min, if◌then◌else◌, List, [], ◌∷◌, ◌++◌, Option, Some, None}
use Rattle.std.specs.List.{list_any, flat_map}
use Rattle.std.specs.Option.{option_map, option_or, option_to_list}
use Rattle.sdt_word.specs.declared.ranges.Range32.{Range32}
use Rattle.sdt_fault.specs.declared.refusal.Refusal.{Refusal}
use Rattle.sdt_fault.specs.declared.refusal.Refusal.TheVariants.{NotWritable}
use Rattle.boot_code.specs.Boots.{covers}
use Rattle.place_model.specs.Faults.{in_range, lacking, least}
use Rattle.link_model.specs.declared.placing.Region.{Region}
use Rattle.link_place.specs.declared.faults.Range.{Range}
use Rattle.link_place.specs.declared.layouts.RegionLayout.{RegionLayout}
use Rattle.link_place.specs.declared.parts.Part.{Part}
use Rattle.link_place.specs.declared.pieces.Piece.{Piece}
use Rattle.link_place.specs.declared.pieces.Piece.TheVariants.{Area}
use Rattle.link_place.specs.Pieces.{size_in, Seat, seats}
use Rattle.link_place.specs.Checks.{span_of, range_by}

abbrev pub lacks : List Range32 → Range → ℕ → Bool
lacks ram r x = covers r.base r.size x && not (list_any (in_range x) ram)

-- the lesser of what was found and an address
abbrev pub lesser_of : Option ℕ → ℕ → Option ℕ
lesser_of None x = Some x
lesser_of (Some y) x = Some (min x y)

abbrev pub with_address : Option ℕ → Bool → ℕ → Option ℕ
with_address best b x = if b then lesser_of best x else best

-- the least of what was found and of others
abbrev pub least_with : Option ℕ → List ℕ → Option ℕ
least_with best xs = least (option_to_list best ++ xs)

abbrev pub is_written : Piece → Bool
is_written (Area a) = a.written
is_written _ = false

-- of an area that the program may write
abbrev pub lacked : List Range32 → ℕ → Seat → List ℕ
lacked ram words s = if is_written s.piece then lacking ram (span_of [] (range_by s.address (size_in words s.piece))) else []

abbrev pub copy_lacking : List Range32 → Region → List ℕ
copy_lacking ram r =
    if not (r.load == r.base) && nat_lt 0 r.length then lacking ram (span_of [] (range_by r.base (r.length + r.zero))) else []

-- of a region: all of it, if it is copied, its zero part, and areas
abbrev pub lacked_in : List Range32 → ℕ → ℕ → Part → Region → List ℕ
lacked_in ram words origin p r =
    copy_lacking ram r
    ++ (lacking ram (span_of [] (range_by (r.base + r.length) r.zero)) ++ flat_map (lacked ram words) (seats words origin 0 r.base p.things))

abbrev pub unwritable_by : List Range32 → ℕ → ℕ → Part → RegionLayout → Option Refusal
unwritable_by ram words origin p l = option_map (λ a. NotWritable l.region.name a) (least (lacked_in ram words origin p l.region))

abbrev pub first_unwritable_by : List Range32 → ℕ → ℕ → List Part → List RegionLayout → Option Refusal
first_unwritable_by ram words origin [] ls = None
first_unwritable_by ram words origin (p ∷ ps) [] = None
first_unwritable_by ram words origin (p ∷ ps) (l ∷ ls) = option_or (unwritable_by ram words origin p l) (first_unwritable_by ram words origin ps ls)
