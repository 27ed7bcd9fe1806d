-- The parts of a scatter description's text, with their lines. A comment goes from `;` to the end of its line;
-- blanks, line ends and comments may stand between any two parts (SDT 2.50 Reference Guide, scatter loading;
-- where parts end that nothing separates is this project's).
use Rattle.std.specs.Prelude.{ℕ, suc, ◌+◌, ◌-◌, ◌==◌, ◌&&◌, ◌||◌, not, Bool, true, false, if◌then◌else◌, List, [], ◌∷◌, length, take, count_by}
use Rattle.std.specs.Char.{is_ascii_graphic}

pub record Part : Type 0 where
  pub line : ℕ
  pub text : List ℕ

-- ---- bytes

-- space and tab
abbrev pub is_blank : ℕ → Bool
is_blank b = b == 32 || b == 9

-- ( ) , ; { }
abbrev pub is_sign : ℕ → Bool
is_sign b = b == 40 || b == 41 || b == 44 || b == 59 || b == 123 || b == 125

-- of the name of a module or an area
abbrev pub is_name_byte : ℕ → Bool
is_name_byte b = is_ascii_graphic b && not (is_sign b)

abbrev pub first_is : ℕ → List ℕ → Bool
first_is c [] = false
first_is c (b ∷ bs) = b == c

-- how many braces are open behind the byte; a description opens two at most
abbrev pub opened : ℕ → ℕ → ℕ
opened depth b = if b == 123 then (if depth == 0 then 1 else 2) else if b == 125 then depth - 1 else depth

-- outside the braces of execution regions `+` begins a part, and so does an `&` with no `+` before it
abbrev pub begins : ℕ → ℕ → ℕ → Bool
begins depth b c = not (depth == 2) && (c == 43 || (c == 38 && not (b == 43)))

-- the byte and the first of those that follow it are of one part
abbrev pub joins : ℕ → ℕ → List ℕ → Bool
joins depth b [] = false
joins depth b (c ∷ cs) = is_name_byte b && is_name_byte c && not (begins depth b c)

-- ---- parts

-- a byte of a comment that goes on, a line feed, with the carriage return before it, or the beginning of a comment
abbrev pub is_gap : Bool → ℕ → List ℕ → Bool
is_gap comment b bs = comment || b == 10 || b == 59 || is_blank b || (b == 13 && first_is 10 bs)

abbrev pub goes_on : Bool → ℕ → Bool
goes_on comment b = not (b == 10) && (comment || b == 59)

abbrev pub depth_behind : Bool → ℕ → ℕ → ℕ
depth_behind comment depth b = if comment then depth else opened depth b

abbrev pub line_behind : ℕ → ℕ → ℕ
line_behind line b = if b == 10 then suc line else line

-- a byte before the parts that follow it: of the first of them, or a part of its own
abbrev pub put : Bool → ℕ → ℕ → List Part → List Part
put joined line b [] = record { line = line; text = b ∷ [] } ∷ []
put true line b (p ∷ ps) = record { line = line; text = b ∷ p.text } ∷ ps
put false line b (p ∷ ps) = record { line = line; text = b ∷ [] } ∷ p ∷ ps

abbrev pub put_unless : Bool → Bool → ℕ → ℕ → List Part → List Part
put_unless true joined line b ps = ps
put_unless false joined line b ps = put joined line b ps

-- the parts of a text: whether a comment goes on before it, how many braces are open, and the line of its first byte
abbrev pub parts : Bool → ℕ → ℕ → List ℕ → List Part
parts comment depth line [] = []
parts comment depth line (b ∷ bs) =
    put_unless (is_gap comment b bs) (joins depth b bs) line b
    (parts (goes_on comment b) (depth_behind comment depth b) (line_behind line b) bs)

abbrev pub parts_of : List ℕ → List Part
parts_of text = parts false 0 1 text

-- how many bytes the part at the front has
abbrev pub part_len : ℕ → List ℕ → ℕ
part_len depth [] = 0
part_len depth (b ∷ bs) = if joins depth b bs then 1 + part_len depth bs else 1

-- each line feed but one at the end has a line behind it
abbrev pub line_count : List ℕ → ℕ
line_count [] = 0
line_count (b ∷ bs) = 1 + count_by (λ c. c == 10) (take (length bs) (b ∷ bs))
