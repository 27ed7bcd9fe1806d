-- What the pieces of an image tell. This project's.
use Rattle.std.specs.Prelude.{◌≡◌, ℕ, ◌+◌, ◌-◌, ◌&&◌, Bool, true, nat_lt, nat_le, if◌then◌else◌, List, [], ◌∷◌, ◌++◌, length, slice_index, Option, Some, None}
use Rattle.std.specs.List.{AllByRecursion}
use Rattle.hex_image.specs.declared.records.Piece.{Piece}

abbrev pub piece : ℕ → List ℕ → Piece
piece base bytes = record { base = base; bytes = bytes }

abbrev pub end_of : Piece → ℕ
end_of p = p.base + length p.bytes

-- the address is one of the piece's
abbrev pub holds : ℕ → Piece → Bool
holds a p = nat_le p.base a && nat_lt a (end_of p)

-- the byte that pieces tell of an address: the map of an image
abbrev pub told : List Piece → ℕ → Option ℕ
told [] a = None
told (p ∷ ps) a = if holds a p then Some (slice_index p.bytes (a - p.base)) else told ps a

-- whether an address is in both of two pieces with bytes: each begins below the other's end
abbrev pub meets_range : ℕ → ℕ → Piece → Bool
meets_range base end p = nat_lt base (end_of p) && nat_lt p.base end

abbrev pub meets : Piece → Piece → Bool
meets p q = meets_range p.base (end_of p) q

-- no address is in both
abbrev pub AreApart : Piece → Piece → Type 0
AreApart p q = (a : ℕ) → holds a p ≡ true → holds a q ≡ true → ⊥

-- none of the pieces has an address of one of those before it
abbrev pub EachApart : List Piece → List Piece → Type 0
EachApart before [] = Unit {0}
EachApart before (p ∷ ps) = AllByRecursion (AreApart p) before × EachApart (before ++ p ∷ []) ps
