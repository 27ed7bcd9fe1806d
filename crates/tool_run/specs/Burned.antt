-- The image that a text of records is: the bytes of each piece that it tells at their address, where they are to be memory,
-- entered at its start (Intel, Hexadecimal Object File Format Specification; Motorola, M68000 Family Programmer's Reference
-- Manual, S-Record Output Format; that bit 0 of the start tells the state is this project's, and so is how the form of a text
-- is told). `BurnLoadLaw` says that memory then holds what the text tells.
use Rattle.std.specs.Prelude.{◌≡◌, ℕ, ◌-◌, ◌%◌, ◌==◌, if◌then◌else◌, nat_eq, List, length, map, codes, unwrap_or, Result, Ok}
use Rattle.std.specs.List.{starts_with}
use Rattle.sdt_fault.specs.declared.refusal.Refusal.{Refusal}
use Rattle.chunk_file.specs.Reading.{◌>>=◌}
use Rattle.hex_image.specs.declared.records.Burn.{Burn}
use Rattle.hex_image.specs.declared.records.Form.{Form}
use Rattle.hex_image.specs.declared.records.Form.TheVariants.{Ihex, Srec}
use Rattle.hex_image.specs.declared.records.Piece.{Piece}
use Rattle.hex_image.specs.Images.{told}
use Rattle.hex_image.specs.Reading.{burn_of}
use Rattle.hex_image.specs.Reads.{Reads}
use Rattle.run_opening.specs.declared.image.Image.{Image}
use Rattle.run_opening.specs.declared.image.Load.{Load}
use Rattle.run_opening.specs.declared.image.Need.{Need}
use Rattle.run_opening.specs.Openings.{loaded}
use Rattle.run_opening.proofs.EvenLemmas.{even_below}
use Rattle.tool_run.specs.Ends.{named_by}

-- S-records where the first byte is `S`, and else Intel HEX
abbrev pub form_in : List ℕ → Form
form_in text = if starts_with nat_eq text (codes "S") then Srec else Ihex

-- a piece's bytes, at its address
abbrev pub load_of : Piece → Load
load_of p = record { base = p.base; bytes = p.bytes }

abbrev pub need_of : Piece → Need
need_of p = record { base = p.base; size = length p.bytes }

-- the pieces, and the start with bit 0 cleared, in Thumb state where it was set
abbrev pub loaded_burn : Burn → Image
loaded_burn b = record {
  loads = map load_of b.pieces;
  needs = map need_of b.pieces;
  start = b.start - b.start % 2;
  thumb = b.start % 2 == 1;
  even = λ thumb. even_below b.start;
}

-- the image, or the refusal of the text's first line at fault
abbrev pub burned_image : List ℕ → List ℕ → Result Image Refusal
burned_image file text = named_by file (burn_of (form_in text) text) >>= λ b. Ok (loaded_burn b)

-- ---- the law

-- over zeros, the loads make the bytes that the text tells, and leave zeros where it tells none
abbrev pub BurnLoadLaw : Type 0
BurnLoadLaw =
    (form : Form) (text : List ℕ) (b : Burn) → Reads form text b
    → (a : ℕ) → loaded (λ x. 0) (loaded_burn b).loads a ≡ unwrap_or (told b.pieces a) 0
