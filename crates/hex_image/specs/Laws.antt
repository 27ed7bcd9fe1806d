-- What is written reads as what was written: the same byte of each address, and the same start. This project's.
use Rattle.std.specs.Prelude.{◌≡◌, ◌≢◌, ℕ, ◌%◌, ◌^◌, ◌<◌, ◌≤◌, List, [], Ok}
use Rattle.std.specs.List.{AllByRecursion}
use Rattle.hex.specs.Hex.{IsBytes}
use Rattle.hex_image.specs.declared.records.Burn.{Burn}
use Rattle.hex_image.specs.declared.records.Form.{Form}
use Rattle.hex_image.specs.declared.records.Form.TheVariants.{Ihex, Srec}
use Rattle.hex_image.specs.Images.{EachApart, end_of, told}
use Rattle.hex_image.specs.Reading.{burn_of}
use Rattle.hex_image.specs.Writing.{ihex_of, srec_of}

-- The pieces hold bytes and end at 2^32 or below, and no address is in two; bits 1 and 0 of the start aren't 10.
pub record IsBurn (b : Burn) : Type 0 where
  pub are_bytes : AllByRecursion (λ p. IsBytes p.bytes) b.pieces
  pub in_space : AllByRecursion (λ p. end_of p ≤ 2 ^ 32) b.pieces
  pub apart : EachApart [] b.pieces
  pub start_fits : b.start < 2 ^ 32
  pub start_state : b.start % 4 ≢ 2

-- a text reads as an image that tells the same
pub record TellsSame (form : Form) (text : List ℕ) (b : Burn) : Type 0 where
  pub read : Burn
  pub reads : burn_of form text ≡ Ok read
  pub same : (a : ℕ) → told read.pieces a ≡ told b.pieces a
  pub start : read.start ≡ b.start

abbrev pub IhexLaw : Type 0
IhexLaw = (b : Burn) → IsBurn b → TellsSame Ihex (ihex_of b) b

abbrev pub SrecLaw : Type 0
SrecLaw = (b : Burn) → IsBurn b → TellsSame Srec (srec_of b) b
