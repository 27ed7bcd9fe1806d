-- What texts of numbers and registers are put together of, as the code lists them.
use Rattle.std.specs.Prelude.{ℕ, true, false, List, [], ◌∷◌, ◌++◌}
use Rattle.std.specs.Fmt.{decimal}
use Rattle.std.specs.List.{flat_map}
use Rattle.sdt_word.specs.Numbers.{registers}
use Rattle.sdt_listing.specs.ArmTexts.{sign, status_name}
use Rattle.sdt_listing.specs.Parts.{mark, register, next, hex, number, address, eight, four, braced, named, indexed, indexed_by, shifted, shifted_by}
use Rattle.sdt_listing.specs.declared.pieces.ListedPlace.{ListedPlace}
use Rattle.sdt_listing.specs.declared.pieces.Offset.{Offset}
use Rattle.sdt_listing.specs.declared.pieces.Offset.TheVariants as offset
use Rattle.sdt_listing.specs.declared.pieces.Piece.{Piece}
use Rattle.sdt_listing.specs.declared.pieces.Piece.TheVariants as is

abbrev pub piece : Piece → List ℕ
piece (is.Letter c) = c ∷ []
piece (is.Marked applies c) = mark applies (c ∷ [])
piece (is.Sign up) = sign up
piece (is.Register n) = register n
piece (is.Next n) = next n
piece (is.Number n) = number n
piece (is.Hex n) = hex n
piece (is.Address n) = address n
piece (is.Decimal n) = decimal n
piece (is.Eight n) = eight n
piece (is.Four n) = four n
piece (is.Field n) = 32 ∷ eight n
piece (is.Shifted m t a) = shifted m t a
piece (is.ShiftedBy m t rs) = shifted_by m t rs
piece (is.Status saved) = status_name saved
piece (is.Listed list) = braced (named (registers 16 list))
piece (is.LowListed list) = braced (named (registers 8 list))

abbrev pub pieces : List Piece → List ℕ
pieces all = flat_map piece all

-- a place above a register
abbrev pub above : ℕ → ListedPlace
above n = record {
  pre = true;
  up = true;
  write_back = false;
  base = n;
}

-- the place of a transfer, with a number, a register or a shifted one as its offset
unfoldable pub placed : ListedPlace → Offset → List ℕ
placed p (offset.Number n) = indexed_by p.pre p.up p.write_back p.base n
placed p (offset.Register m) = indexed p.pre p.write_back p.base (sign p.up ++ register m)
placed p (offset.Shifted m t a) = indexed p.pre p.write_back p.base (sign p.up ++ shifted m t a)
