-- What stands in a region, one piece behind the other, as the linker holds it: the same as the things of a plan,
-- without what placing doesn't ask for, and with the startup code apart from its table. This project's.
use Rattle.std.specs.Prelude.{ℕ, ◌+◌, ◌*◌, if◌then◌else◌, List, [], ◌∷◌}
use Rattle.place_model.specs.Things.{gap}
use Rattle.link_place.specs.declared.pieces.Piece.{Piece}
use Rattle.link_place.specs.declared.pieces.Piece.TheVariants.{Header, Area, Veneer, Startup}

-- with a table of so many words
abbrev pub size_in : ℕ → Piece → ℕ
size_in words Header = 128
size_in words (Area a) = a.size
size_in words (Veneer v) = if v.thumb then 12 else 8
size_in words Startup = 168 + 4 * words

abbrev pub multiple_in : Piece → ℕ
multiple_in Header = 4
multiple_in (Area a) = a.multiple
multiple_in (Veneer v) = 4
multiple_in Startup = 4

abbrev pub start_in : ℕ → ℕ → Piece → ℕ
start_in origin at p = at + gap origin (multiple_in p) at

abbrev pub reach : ℕ → ℕ → ℕ → List Piece → ℕ
reach words origin at [] = 0
reach words origin at (p ∷ ps) =
    gap origin (multiple_in p) at + size_in words p + reach words origin (start_in origin at p + size_in words p) ps

-- a piece with its region's number and its address
pub record Seat : Type 0 where
  pub region : ℕ
  pub piece : Piece
  pub address : ℕ

abbrev pub seats : ℕ → ℕ → ℕ → ℕ → List Piece → List Seat
seats words origin region at [] = []
seats words origin region at (p ∷ ps) =
    (record { region = region; piece = p; address = start_in origin at p })
    ∷ seats words origin region (start_in origin at p + size_in words p) ps
