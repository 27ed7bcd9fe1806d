-- Rows of an instruction table as the architecture manual prints them. A row is a text of digits, the
-- fixed bits, and letters, the bits of fields, from the highest bit down: "010001 oo h g sss ddd".
-- Equal letters with no blank between them are one field.
use Rattle.std.specs.Prelude.{ℕ, ◌+◌, ◌-◌, ◌*◌, ◌^◌, ◌<◌, nat_lt, ◌==◌, if◌then◌else◌, List, [], ◌∷◌, codes}
use Prim.Native.String.{String}

-- a fixed bit, a field with its letter and its number of bits, or a blank
pub data Part : Type 0 where
  Digit : ℕ → Part
  Field : ℕ → ℕ → Part
  Blank : Part

-- a letter before a row widens the row's first field where that has the letter, and else begins one
abbrev pub with_letter : ℕ → List Part → List Part
with_letter letter [] = Field letter 1 ∷ []
with_letter letter (Digit d ∷ row) = Field letter 1 ∷ Digit d ∷ row
with_letter letter (Blank ∷ row) = Field letter 1 ∷ Blank ∷ row
with_letter letter (Field other n ∷ row) =
    if letter == other then Field letter (n + 1) ∷ row else Field letter 1 ∷ Field other n ∷ row

-- a character before a row: a blank, a digit or a letter
abbrev pub with_character : ℕ → List Part → List Part
with_character c row =
    if c == 32 then Blank ∷ row else (if nat_lt c 50 then Digit (c - 48) ∷ row else with_letter c row)

-- the row of a text
abbrev pub row_of : List ℕ → List Part
row_of [] = []
row_of (c ∷ cs) = with_character c (row_of cs)

abbrev pub row : String → List Part
row text = row_of (codes text)

-- how many bits a row has
abbrev pub width_of : List Part → ℕ
width_of [] = 0
width_of (Digit d ∷ row) = 1 + width_of row
width_of (Field letter n ∷ row) = n + width_of row
width_of (Blank ∷ row) = width_of row

-- the number that the fixed bits make in their places
abbrev pub digits_of : List Part → ℕ
digits_of [] = 0
digits_of (Digit d ∷ row) = d * 2 ^ width_of row + digits_of row
digits_of (Field letter n ∷ row) = digits_of row
digits_of (Blank ∷ row) = digits_of row

-- the number that the fields make in their places
abbrev pub placed_of : List Part → List ℕ → ℕ
placed_of [] fields = 0
placed_of (Digit d ∷ row) fields = placed_of row fields
placed_of (Field letter n ∷ row) [] = 0
placed_of (Field letter n ∷ row) (x ∷ fields) = x * 2 ^ width_of row + placed_of row fields
placed_of (Blank ∷ row) fields = placed_of row fields

-- the word of a row with these fields: the row's digits and each field in its place
abbrev pub word_of : List Part → List ℕ → ℕ
word_of row fields = digits_of row + placed_of row fields

-- there is a number for each field, and it fits
abbrev pub FitsRow : List Part → List ℕ → Type 0
FitsRow [] [] = Unit {0}
FitsRow [] (x ∷ fields) = ⊥
FitsRow (Digit d ∷ row) fields = FitsRow row fields
FitsRow (Field letter n ∷ row) [] = ⊥
FitsRow (Field letter n ∷ row) (x ∷ fields) = (x < 2 ^ n) × FitsRow row fields
FitsRow (Blank ∷ row) fields = FitsRow row fields
