-- The texts that are written: a line feed behind each record, digits in upper case. Which records there are, in which order
-- and how long, is this project's; each is one of its form (Intel, Hexadecimal Object File Format Specification; Motorola,
-- M68000 Family Programmer's Reference Manual, S-Record Output Format).
use Rattle.std.specs.Prelude.{◌≡◌, ℕ, ◌+◌, ◌-◌, ◌/◌, ◌%◌, ◌^◌, ◌==◌, if◌then◌else◌, sum, List, [], ◌∷◌, ◌++◌, length, Option, Some, None}
use Rattle.std.specs.List.{flat_map}
use Rattle.hex.specs.Hex.{encode_upper}
use Rattle.hex_image.specs.declared.records.Burn.{Burn}
use Rattle.hex_image.specs.declared.records.Piece.{Piece}
use Rattle.hex_image.specs.Digits.{half_bytes, word_bytes}
use Rattle.hex_image.specs.Images.{piece}

-- ---- a piece's data records: each holds the bytes from an address to the next multiple of 16 or the piece's end

-- a byte stands before the record behind it, unless that begins at a multiple of 16
abbrev pub before : ℕ → ℕ → List Piece → List Piece
before a b [] = piece a (b ∷ []) ∷ []
before a b (p ∷ ps) = if p.base % 16 == 0 then piece a (b ∷ []) ∷ p ∷ ps else piece a (b ∷ p.bytes) ∷ ps

abbrev pub rows : ℕ → List ℕ → List Piece
rows a [] = []
rows a (b ∷ bs) = before a b (rows (a + 1) bs)

abbrev pub rows_of : List Piece → List Piece
rows_of ps = flat_map (λ p. rows p.base p.bytes) ps

-- ---- Intel HEX

-- a record without its sum: how many bytes, the address, the type, and the bytes
abbrev pub ihex_record : ℕ → ℕ → List ℕ → List ℕ
ihex_record kind address bytes = length bytes ∷ half_bytes address ++ kind ∷ bytes

-- the byte that makes the sum of all 0 modulo 256
abbrev pub summed : List ℕ → List ℕ
summed bytes = bytes ++ ((256 - sum bytes % 256) % 256) ∷ []

abbrev pub ihex_line : List ℕ → List ℕ
ihex_line bytes = 58 ∷ encode_upper (summed bytes) ++ 10 ∷ []

-- the upper half of the address, unless it is the one that counts
abbrev pub upper_records : Option ℕ → ℕ → List (List ℕ)
upper_records None upper = ihex_record 4 0 (half_bytes upper) ∷ []
upper_records (Some known) upper = if known == upper then [] else ihex_record 4 0 (half_bytes upper) ∷ []

abbrev pub row_records : Option ℕ → Piece → List (List ℕ)
row_records known p = upper_records known (p.base / 2 ^ 16) ++ ihex_record 0 (p.base % 2 ^ 16) p.bytes ∷ []

abbrev pub ihex_rows : Option ℕ → List Piece → List (List ℕ)
ihex_rows known [] = []
ihex_rows known (p ∷ ps) = row_records known p ++ ihex_rows (Some (p.base / 2 ^ 16)) ps

-- their text, behind records whose upper half is known
abbrev pub ihex_rest : Option ℕ → List Piece → List ℕ
ihex_rest known ps = flat_map ihex_line (ihex_rows known ps)

-- a text with the records of some pieces behind it, whatever pieces follow
abbrev pub GoesOn : Option ℕ → List ℕ → List Piece → List ℕ → Option ℕ → Type 0
GoesOn known text ps longer last = (more : List Piece) → longer ++ ihex_rest last more ≡ text ++ ihex_rest known (ps ++ more)

-- the start, and the end
abbrev pub ihex_end : ℕ → List ℕ
ihex_end start = ihex_line (ihex_record 5 0 (word_bytes start)) ++ ihex_line (ihex_record 1 0 [])

abbrev pub ihex_of : Burn → List ℕ
ihex_of b = ihex_rest None (rows_of b.pieces) ++ ihex_end b.start

-- ---- S-records

-- a record without its sum: how many bytes with the sum, the address, and the bytes
abbrev pub srec_record : List ℕ → List ℕ → List ℕ
srec_record address bytes = (length address + length bytes + 1) ∷ address ++ bytes

-- the complement of the low byte of the sum
abbrev pub complemented : List ℕ → List ℕ
complemented bytes = bytes ++ (255 - sum bytes % 256) ∷ []

abbrev pub srec_line : ℕ → List ℕ → List ℕ
srec_line kind bytes = 83 ∷ (48 + kind) ∷ encode_upper (complemented bytes) ++ 10 ∷ []

abbrev pub srec_row : Piece → List ℕ
srec_row p = srec_line 3 (srec_record (word_bytes p.base) p.bytes)

-- a header without a text, the data, and the end with the start
abbrev pub srec_of : Burn → List ℕ
srec_of b =
    srec_line 0 (srec_record (half_bytes 0) [])
    ++ flat_map srec_row (rows_of b.pieces)
    ++ srec_line 7 (srec_record (word_bytes b.start) [])
