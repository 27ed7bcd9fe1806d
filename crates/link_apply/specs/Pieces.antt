-- The pieces of all regions, each with the number of its region, and the regions that they make. This project's.
use Rattle.std.specs.Prelude.{ℕ, suc, ◌==◌, if◌then◌else◌, List, [], ◌∷◌, ◌++◌, map, slice_get, Option, Some, None}
use Rattle.std.specs.List.{filter, filter_map}
use Rattle.sdt_word.specs.Numbers.{bit}
use Rattle.aof_object.specs.declared.records.Area.{Area}
use Rattle.link_model.specs.declared.placing.PlacedArea.{PlacedArea}
use Rattle.link_model.specs.declared.placing.PlacedVeneer.{PlacedVeneer}
use Rattle.link_model.specs.declared.placing.Placement.{Placement}
use Rattle.link_model.specs.declared.placing.Region.{Region}
use Rattle.link_model.specs.Members.{Link}
use Rattle.link_model.specs.RegionValues.{area_of}
use Rattle.link_values.specs.Placed.{values_in}
use Rattle.link_apply.specs.declared.laying.RegionBuild.{RegionBuild}
use Rattle.link_apply.specs.declared.laying.RegionPiece.{RegionPiece}
use Rattle.link_apply.specs.declared.sites.PlacedLink.{PlacedLink}
use Rattle.link_apply.specs.declared.sites.Site.{Site}
use Rattle.link_apply.specs.PatchedBytes.{patched_bytes}
use Rattle.link_apply.specs.Patching.{bytes_at}
use Rattle.link_apply.specs.RegionBytes.{Piece, laid, filled_up, veneer_piece, startup_from}

-- ---- of a region of a number

abbrev pub piece_of : RegionPiece → Piece
piece_of x = (x.address, x.bytes)

abbrev pub pieces_in : List RegionPiece → ℕ → List Piece
pieces_in pieces region = map piece_of (filter (λ x. x.region == region) pieces)

-- with one before them
abbrev pub with_piece : RegionPiece → (ℕ → List Piece) → ℕ → List Piece
with_piece x pieces region = if x.region == region then piece_of x ∷ pieces region else pieces region

-- ---- regions, which are counted from a number on

abbrev pub laid_from : (ℕ → List Piece) → ℕ → List Region → List (List ℕ)
laid_from pieces i [] = []
laid_from pieces i (r ∷ regions) = filled_up r.length (laid r.base (pieces i)) ∷ laid_from pieces (suc i) regions

-- what growing regions are with these pieces behind what they have
abbrev pub grown_from : (ℕ → List Piece) → ℕ → List RegionBuild → List (List ℕ)
grown_from pieces i [] = []
grown_from pieces i (g ∷ growing) = filled_up g.length (g.bytes.items ++ laid g.at (pieces i)) ∷ grown_from pieces (suc i) growing

-- ---- all pieces

abbrev pub site_piece : PlacedLink → Site → Option RegionPiece
site_piece known site =
    if bit site.area.now.attributes 12 == 1 then None
    else Some (record { region = site.placed.region; address = site.placed.address; bytes = bytes_at known site })

abbrev pub area_region_piece : Link → Placement → PlacedArea → Option Area → Option RegionPiece
area_region_piece l p placed None = None
area_region_piece l p placed (Some a) =
    if bit a.attributes 12 == 1 then None
    else Some (record {
      region = placed.region;
      address = placed.address;
      bytes = patched_bytes p (values_in l p placed.area.object) placed.region placed.address a;
    })

abbrev pub area_region_pieces : Link → Placement → List PlacedArea → List RegionPiece
area_region_pieces l p areas = filter_map (λ a. area_region_piece l p a (area_of l.objects a.area)) areas

abbrev pub veneer_region_piece : Placement → PlacedVeneer → RegionPiece
veneer_region_piece p v = record { region = v.veneer.region; address = v.address; bytes = (veneer_piece p v).1 }

abbrev pub startup_region_piece : Link → Placement → Option Region → Option ℕ → List RegionPiece
startup_region_piece l p (Some r) (Some boot) = (record { region = 0; address = boot; bytes = (startup_from l p boot r).1 }) ∷ []
startup_region_piece l p r boot = []

abbrev pub all_pieces : Link → Placement → List RegionPiece
all_pieces l p =
    area_region_pieces l p p.areas ++ (map (veneer_region_piece p) p.veneers ++ startup_region_piece l p (slice_get p.regions 0) p.boot)
