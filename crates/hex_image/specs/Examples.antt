-- Texts worked out by hand: those of eight bytes at 0x8000, started there, what they read as, and what is told of texts at
-- fault.
use Rattle.std.specs.Prelude.{◌≡◌, List, [], ◌∷◌, ◌++◌, ℕ, codes, Ok, Err}
use Rattle.std.specs.List.{flat_map}
use Rattle.sdt_fault.specs.declared.kinds.RecordKind.TheVariants.{Syntax, Length, Sum, RecordType, Address, Repeated, Order}
use Rattle.sdt_fault.specs.declared.refusal.Refusal.TheVariants.{BadRecord}
use Rattle.hex_image.specs.declared.records.Burn.{Burn}
use Rattle.hex_image.specs.declared.records.Form.TheVariants.{Ihex, Srec}
use Rattle.hex_image.specs.Images.{piece}
use Rattle.hex_image.specs.Reading.{burn_of}
use Rattle.hex_image.specs.Writing.{ihex_of, srec_of}

abbrev pub image : Burn
image = record { pieces = piece 0x8000 (0x12 ∷ 0 ∷ 0xA0 ∷ 0xE3 ∷ 0x11 ∷ 0 ∷ 0 ∷ 0xEF ∷ []) ∷ []; start = 0x8000 }

abbrev pub text_of : List (List ℕ) → List ℕ
text_of lines = flat_map (λ l. l ++ 10 ∷ []) lines

abbrev pub ihex_text : List ℕ
ihex_text = text_of (codes ":020000040000FA" ∷ codes ":088000001200A0E3110000EFE3" ∷ codes ":040000050000800077" ∷ codes ":00000001FF" ∷ [])

abbrev pub srec_text : List ℕ
srec_text = text_of (codes "S0030000FC" ∷ codes "S30D000080001200A0E3110000EFDD" ∷ codes "S705000080007A" ∷ [])

pub record WorkedExamples : Type 0 where
  pub ihex : ihex_of image ≡ ihex_text
  pub srec : srec_of image ≡ srec_text
  pub ihex_read : burn_of Ihex ihex_text ≡ Ok image
  pub srec_read : burn_of Srec srec_text ≡ Ok image
  pub wrong_sum : burn_of Ihex (text_of (codes ":020000040000FA" ∷ codes ":088000001200A0E3110000EFE4" ∷ [])) ≡ Err (BadRecord [] 2 Sum)
  pub no_digit : burn_of Srec (codes "S1") ≡ Err (BadRecord [] 1 Syntax)
  pub too_few : burn_of Ihex (codes ":00") ≡ Err (BadRecord [] 1 Length)
  pub unknown : burn_of Ihex (codes ":00000006FA") ≡ Err (BadRecord [] 1 RecordType)
  pub beyond : burn_of Ihex (text_of (codes ":02000004FFFFFC" ∷ codes ":02FFFF000102FD" ∷ [])) ≡ Err (BadRecord [] 2 Address)
  pub neither_state : burn_of Srec (codes "S9030002FA") ≡ Err (BadRecord [] 1 Address)
  pub twice : burn_of Ihex (text_of (codes ":0100000001FE" ∷ codes ":0100000001FE" ∷ [])) ≡ Err (BadRecord [] 2 Repeated)
  pub behind_end : burn_of Srec (text_of (codes "S9030000FC" ∷ codes "S9030000FC" ∷ [])) ≡ Err (BadRecord [] 2 Order)
  pub no_end : burn_of Ihex (codes ":0100000001fe") ≡ Err (BadRecord [] 2 Order)
