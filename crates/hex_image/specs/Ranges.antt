-- The ranges of pieces as a map from where each begins to where it ends. This project's.
use Rattle.std.specs.Prelude.{◌≡◌, ℕ, ◌<◌, ◌≤◌, Bool, true, false, List, Option, Some}
use Rattle.std.specs.List.{list_any}
use Rattle.hex_image.specs.declared.records.Piece.{Piece}
use Rattle.hex_image.specs.Images.{end_of}

-- The map has exactly the ranges of the pieces: what holds of none of its ranges holds of no piece, and what holds of the
-- pieces with one of its ranges holds of some piece. None is empty, and no two meet.
pub record AreEnds (pieces : List Piece) (ends : ℕ → Option ℕ) : Type 0 where
  pub all : (test : Piece → Bool) → ((p : Piece) → ends p.base ≡ Some (end_of p) → test p ≡ false) → list_any test pieces ≡ false
  pub only :
      (base end : ℕ) → ends base ≡ Some end
      → (test : Piece → Bool) → ((p : Piece) → p.base ≡ base → end_of p ≡ end → test p ≡ true) → list_any test pieces ≡ true
  pub some : (base end : ℕ) → ends base ≡ Some end → base < end
  pub apart : (base end other last : ℕ) → ends base ≡ Some end → ends other ≡ Some last → base < other → end ≤ other
