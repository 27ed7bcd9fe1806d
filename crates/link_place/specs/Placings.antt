-- Where areas, veneers and the startup code stand, by a layout and its parts. This project's.
use Rattle.std.specs.Prelude.{◌≡◌, ℕ, suc, ◌+◌, List, [], ◌∷◌, ◌++◌, Option, Some, None}
use Rattle.std.specs.List.{flat_map}
use Rattle.std.specs.Option.{option_or}
use Rattle.link_model.specs.declared.placing.PlacedArea.{PlacedArea}
use Rattle.link_model.specs.declared.placing.PlacedVeneer.{PlacedVeneer}
use Rattle.link_place.specs.declared.layouts.RegionLayout.{RegionLayout}
use Rattle.link_place.specs.declared.parts.Part.{Part}
use Rattle.link_place.specs.declared.pieces.Piece.{Piece}
use Rattle.link_place.specs.declared.pieces.Piece.TheVariants.{Area, Veneer, Startup}
use Rattle.link_place.specs.declared.placing.Placing.{Placing}
use Rattle.link_place.specs.Pieces.{reach, Seat, seats}

abbrev pub area_by : ℕ → ℕ → Piece → List PlacedArea
area_by region address (Area a) = (record { area = a.name; region = region; address = address }) ∷ []
area_by region address _ = []

abbrev pub area_at : Seat → List PlacedArea
area_at s = area_by s.region s.address s.piece

abbrev pub veneer_by : ℕ → Piece → List PlacedVeneer
veneer_by address (Veneer v) = (record { veneer = v; address = address }) ∷ []
veneer_by address _ = []

abbrev pub veneer_at : Seat → List PlacedVeneer
veneer_at s = veneer_by s.address s.piece

abbrev pub boot_by : ℕ → Piece → Option ℕ
boot_by address Startup = Some address
boot_by address _ = None

abbrev pub boot_at : Seat → Option ℕ
boot_at s = boot_by s.address s.piece

abbrev pub boot_in : List Seat → Option ℕ
boot_in [] = None
boot_in (s ∷ ss) = option_or (boot_at s) (boot_in ss)

abbrev pub seat_at : ℕ → Piece → ℕ → Seat
seat_at region p address = record { region = region; piece = p; address = address }

abbrev pub region_seats : ℕ → ℕ → ℕ → Part → RegionLayout → List Seat
region_seats words origin number p l =
    seats words origin number l.region.base p.things ++ seats words origin number (l.region.base + l.region.length) p.zeros

-- of regions that are counted from a number on
abbrev pub all_seats : ℕ → ℕ → ℕ → List Part → List RegionLayout → List Seat
all_seats words origin number [] ls = []
all_seats words origin number (p ∷ ps) [] = []
all_seats words origin number (p ∷ ps) (l ∷ ls) =
    region_seats words origin number p l ++ all_seats words origin (suc number) ps ls

-- after is before with more that is placed
pub record AreStood (before after : Placing) (ss : List Seat) : Type 0 where
  pub areas : after.areas.items ≡ before.areas.items ++ flat_map area_at ss
  pub veneers : after.veneers.items ≡ before.veneers.items ++ flat_map veneer_at ss
  pub boot : after.boot ≡ option_or before.boot (boot_in ss)

-- all that is placed
pub record AreAll (out : Placing) (ss : List Seat) : Type 0 where
  pub areas : out.areas.items ≡ flat_map area_at ss
  pub veneers : out.veneers.items ≡ flat_map veneer_at ss
  pub boot : out.boot ≡ boot_in ss

-- a region where its part stands, and all of them
pub record IsFor (words origin : ℕ) (p : Part) (l : RegionLayout) : Type 0 where
  pub length : l.region.length ≡ reach words origin l.region.base p.things
  pub zero_part : l.region.zero ≡ reach words origin (l.region.base + l.region.length) p.zeros

abbrev pub AreFor : ℕ → ℕ → List Part → List RegionLayout → Type 0
AreFor words origin [] [] = Unit {0}
AreFor words origin [] (l ∷ ls) = ⊥
AreFor words origin (p ∷ ps) [] = ⊥
AreFor words origin (p ∷ ps) (l ∷ ls) = IsFor words origin p l × AreFor words origin ps ls
