-- How long the longest prefix of each form is; 0 where there is none. This project's: what the code gives,
-- and the laws tie it to the forms.
use Rattle.std.specs.Prelude.{ℕ, ◌+◌, ◌-◌, List, [], ◌∷◌, ◌==◌, nat_le, nat_lt, ◌&&◌, ◌||◌, Bool, if◌then◌else◌, length, max, nat_eq, codes}
use Rattle.std.specs.List.{prefix_len, slice_split, starts_with}
use Rattle.asm_model.specs.declared.tokens.TokenKind.{TokenKind}
use Rattle.asm_model.specs.declared.tokens.TokenKind.TheVariants.{Name, Barred, Number, Quoted, Character, Braced, Local, Sign}
use Rattle.asm_model.specs.Forms.{is_blank, is_digit, is_hex_digit, is_digit_of, is_letter, is_word, is_between_bars, braced_words, signs}
use Rattle.asm_lines.specs.declared.bytes.Class.{Class}
use Rattle.asm_lines.specs.declared.bytes.Class.TheVariants.{Blank, Word, Digit, HexDigit, DigitOf}

-- whether a byte is of the class
abbrev pub passes : Class → ℕ → Bool
passes Blank c = is_blank c
passes Word c = is_word c
passes Digit c = is_digit c
passes HexDigit c = is_hex_digit c
passes (DigitOf base) c = is_digit_of base c

-- the length behind i bytes, or else the best so far
abbrev pub kept : ℕ → ℕ → ℕ → ℕ
kept best i n = if n == 0 then best else i + n

-- the length behind i bytes, where there is one
abbrev pub added : ℕ → ℕ → ℕ
added i n = kept 0 i n

abbrev pub behind_len : (ℕ → Bool) → (List ℕ → ℕ) → List ℕ → ℕ
behind_len test len [] = 0
behind_len test len (c ∷ cs) = if test c then added 1 (len cs) else 0

abbrev pub begun_len : (ℕ → Bool) → (List ℕ → ℕ) → List ℕ → ℕ
begun_len test len [] = 0
begun_len test len (c ∷ cs) = if test c then len (c ∷ cs) else 0

abbrev pub name_len : List ℕ → ℕ
name_len rest = begun_len is_letter (prefix_len is_word) rest

abbrev pub bar_len : List ℕ → ℕ
bar_len [] = 0
bar_len (c ∷ cs) = if c == 124 then 1 else if is_between_bars c then added 1 (bar_len cs) else 0

abbrev pub barred_len : List ℕ → ℕ
barred_len rest = behind_len (λ c. c == 124) (begun_len is_between_bars bar_len) rest

abbrev pub based_len : List ℕ → ℕ
based_len [] = 0
based_len (c ∷ cs) =
    if nat_le 50 c && nat_le c 57 then added 1 (behind_len (λ d. d == 95) (prefix_len (is_digit_of (c - 48))) cs) else 0

abbrev pub zero_x_len : List ℕ → ℕ
zero_x_len rest = behind_len (λ c. c == 48) (behind_len (λ c. c == 120) (prefix_len is_hex_digit)) rest

abbrev pub ampersand_len : List ℕ → ℕ
ampersand_len rest = behind_len (λ c. c == 38) (prefix_len is_hex_digit) rest

-- the longest number, where the longest decimal one has `decimal` bytes
abbrev pub other_number_len : ℕ → List ℕ → ℕ
other_number_len decimal rest = max (max decimal (max (zero_x_len rest) (ampersand_len rest))) (based_len rest)

abbrev pub number_len : List ℕ → ℕ
number_len rest = other_number_len (prefix_len is_digit rest) rest

abbrev pub string_len : List ℕ → ℕ
string_len [] = 0
string_len (c ∷ []) = if c == 34 then 1 else 0
string_len (c ∷ d ∷ cs) = if c == 34 then (if d == 34 then kept 1 2 (string_len cs) else 1) else added 1 (string_len (d ∷ cs))

abbrev pub quoted_len : List ℕ → ℕ
quoted_len rest = behind_len (λ c. c == 34) string_len rest

abbrev pub character_len : List ℕ → ℕ
character_len [] = 0
character_len (a ∷ []) = 0
character_len (a ∷ b ∷ []) = 0
character_len (a ∷ b ∷ c ∷ cs) = if a == 39 && (nat_lt b 128 && c == 39) then 3 else 0

abbrev pub short_len : List ℕ → ℕ
short_len [] = 0
short_len (c ∷ []) = if is_digit c then 1 else 0
short_len (c ∷ d ∷ cs) = if is_digit c then (if is_digit d then 2 else 1) else 0

abbrev pub local_len : List ℕ → ℕ
local_len rest = behind_len (λ c. c == 37) (λ t. max (short_len t) (behind_len (λ c. c == 70 || c == 66) short_len t)) rest

abbrev pub word_len : List ℕ → List ℕ → ℕ
word_len word rest = if starts_with nat_eq rest word then length word else 0

abbrev pub words_len : List (List ℕ) → List ℕ → ℕ
words_len [] rest = 0
words_len (w ∷ ws) rest = max (word_len w rest) (words_len ws rest)

abbrev pub one_of_len : List ℕ → List ℕ → ℕ
one_of_len text rest = words_len (slice_split (λ c. c == 32) text) rest

-- the signs of one byte with which no longer one begins
abbrev pub byte_signs : List ℕ
byte_signs = codes "+-?*().@,#&%^![|]{}"

-- the longer of two, the first where they are equal
abbrev pub longer : TokenKind × ℕ → TokenKind → ℕ → TokenKind × ℕ
longer best kind len = if nat_lt best.1 len then (kind, len) else best

-- the longest prefix with a form
unfoldable pub best_of : List ℕ → TokenKind × ℕ
best_of rest =
    longer
    (longer
    (longer
    (longer
    (longer
    (longer (longer (Name, name_len rest) Barred (barred_len rest)) Number (number_len rest))
    Quoted (quoted_len rest))
    Character (character_len rest))
    Braced (one_of_len braced_words rest))
    Local (local_len rest))
    Sign (one_of_len signs rest)

-- the longest prefix with a form that begins with a byte, but for names, decimal numbers and signs
abbrev pub form_at : ℕ → List ℕ → TokenKind × ℕ
form_at c rest =
    if c == 124 then (Barred, barred_len rest)
    else if c == 34 then (Quoted, quoted_len rest)
    else if c == 39 then (Character, character_len rest)
    else if c == 123 then (Braced, one_of_len braced_words rest)
    else if c == 37 then (Local, local_len rest)
    else if c == 38 then (Number, number_len rest)
    else (Name, 0)

-- the longest prefix with a form that begins with a byte, but for names and decimal numbers
abbrev pub other_of : ℕ → List ℕ → TokenKind × ℕ
other_of c rest = longer (longer (Name, 0) (form_at c rest).0 (form_at c rest).1) Sign (one_of_len signs rest)

-- a sign of one byte with which no other token begins; one of those that stand most often
abbrev pub is_alone : ℕ → Bool
is_alone c = (nat_le 40 c && nat_le c 46) || c == 35 || c == 91 || c == 93

-- what a byte is: a letter or '_' (l), a digit (d), a sign that stands alone (,) or another (.)
abbrev pub kind_of : ℕ → ℕ
kind_of c = if is_letter c then 108 else if is_digit c then 100 else if is_alone c then 44 else 46
