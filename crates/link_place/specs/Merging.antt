-- Areas that always begin where others end, as one piece with these: what pieces take from an address on stays the same.
-- This is a way to reckon, and the same by nature as the code. This project's.
use Rattle.std.specs.Prelude.{ℕ, ◌+◌, ◌%◌, ◌^◌, Bool, ◌&&◌, ◌==◌, nat_lt, if◌then◌else◌, is_some, List, [], ◌∷◌, Option, Some, None}
use Rattle.link_place.specs.declared.parts.Part.{Part}
use Rattle.link_place.specs.declared.pieces.AreaPiece.{AreaPiece}
use Rattle.link_place.specs.declared.pieces.Piece.{Piece}
use Rattle.link_place.specs.declared.pieces.Piece.TheVariants.{Header, Area, Veneer, Startup}

-- one area always begins at the end of another, and 32 bits hold the size of both
abbrev pub follows : AreaPiece → AreaPiece → Bool
follows a b =
    nat_lt 0 a.multiple && (nat_lt 0 b.multiple && (a.multiple % b.multiple == 0 && (a.size % b.multiple == 0 && nat_lt (a.size + b.size) (2 ^ 32))))

abbrev pub joined_areas : AreaPiece → AreaPiece → Option Piece
joined_areas a b =
    if follows a b then Some (Area (record { name = a.name; multiple = a.multiple; size = a.size + b.size; written = a.written })) else None

abbrev pub joined : Piece → Piece → Option Piece
joined (Area a) (Area b) = joined_areas a b
joined _ _ = None

-- behind a last piece, which may grow
abbrev pub merged_behind : Option Piece → List Piece → List Piece
merged_behind None [] = []
merged_behind None (q ∷ qs) = merged_behind (Some q) qs
merged_behind (Some p) [] = p ∷ []
merged_behind (Some p) (q ∷ qs) = if is_some (joined p q) then merged_behind (joined p q) qs else p ∷ merged_behind (Some q) qs

abbrev pub merged : List Piece → List Piece
merged ps = merged_behind None ps

abbrev pub merged_part : Part → Part
merged_part p = record { name = p.name; base = p.base; maximum = p.maximum; things = merged p.things; zeros = merged p.zeros }
