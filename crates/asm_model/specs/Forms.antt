-- The forms of tokens. ARM SDT 2.50 Reference Guide, chapter on the assembler; which words stand in braces
-- and which signs there are is this project's. Bytes from 0x80 on have no form outside strings.
use Rattle.std.specs.Prelude.{ℕ, ◌+◌, ◌-◌, ◌==◌, nat_le, nat_lt, ◌&&◌, ◌||◌, Bool, true, false, if◌then◌else◌}
use Rattle.std.specs.Prelude.{List, [], ◌∷◌, codes, Option, Some, None}
use Rattle.std.specs.List.{list_all, list_any, slice_split}
use Rattle.asm_model.specs.declared.tokens.TokenKind.{TokenKind}
use Rattle.asm_model.specs.declared.tokens.TokenKind.TheVariants.{Name, Barred, Number, Quoted, Character, Braced, Local, Sign}

-- a space or a tab
abbrev pub is_blank : ℕ → Bool
is_blank c = c == 32 || c == 9

abbrev pub is_digit : ℕ → Bool
is_digit c = nat_le 48 c && nat_le c 57

-- in either case
abbrev pub is_hex_digit : ℕ → Bool
is_hex_digit c = is_digit c || (nat_le 65 c && nat_le c 70) || (nat_le 97 c && nat_le c 102)

-- a digit of a base up to 9
abbrev pub is_digit_of : ℕ → ℕ → Bool
is_digit_of base c = nat_le 48 c && nat_lt c (48 + base)

-- a letter, or '_'
abbrev pub is_letter : ℕ → Bool
is_letter c = (nat_le 65 c && nat_le c 90) || (nat_le 97 c && nat_le c 122) || c == 95

-- a byte of a name
abbrev pub is_word : ℕ → Bool
is_word c = is_letter c || is_digit c

-- a byte of a name between bars: printable, and no bar
abbrev pub is_between_bars : ℕ → Bool
is_between_bars c = nat_le 32 c && nat_lt c 124 || c == 125 || c == 126

-- one byte or more, each of which passes
abbrev pub one_or_more : (ℕ → Bool) → List ℕ → Bool
one_or_more passes [] = false
one_or_more passes (c ∷ cs) = list_all passes (c ∷ cs)

-- a first byte that passes, and a form behind it
abbrev pub behind : (ℕ → Bool) → (List ℕ → Bool) → List ℕ → Bool
behind passes form [] = false
behind passes form (c ∷ cs) = passes c && form cs

-- a form whose first byte passes
abbrev pub begun : (ℕ → Bool) → (List ℕ → Bool) → List ℕ → Bool
begun passes form [] = false
begun passes form (c ∷ cs) = passes c && form (c ∷ cs)

-- letters, digits and '_', not beginning with a digit
abbrev pub is_name : List ℕ → Bool
is_name s = begun is_letter (one_or_more is_word) s

-- bytes of a name and then a bar
abbrev pub ends_with_bar : List ℕ → Bool
ends_with_bar [] = false
ends_with_bar (c ∷ []) = c == 124
ends_with_bar (c ∷ d ∷ cs) = is_between_bars c && ends_with_bar (d ∷ cs)

-- one byte or more between two bars
abbrev pub is_barred : List ℕ → Bool
is_barred s = behind (λ c. c == 124) (begun is_between_bars ends_with_bar) s

-- digits of the base that its first byte names, behind a '_'
abbrev pub is_based : List ℕ → Bool
is_based [] = false
is_based (c ∷ cs) = nat_le 50 c && nat_le c 57 && behind (λ d. d == 95) (one_or_more (is_digit_of (c - 48))) cs

-- 0x and hexadecimal digits, or & and hexadecimal digits
abbrev pub is_hexadecimal : List ℕ → Bool
is_hexadecimal s =
    behind (λ c. c == 48) (behind (λ c. c == 120) (one_or_more is_hex_digit)) s
    || behind (λ c. c == 38) (one_or_more is_hex_digit) s

abbrev pub is_number : List ℕ → Bool
is_number s = one_or_more is_digit s || is_hexadecimal s || is_based s

-- the rest of a string behind its first quote: two quotes stand for one, and one quote ends it
abbrev pub ends_string : List ℕ → Bool
ends_string [] = false
ends_string (c ∷ []) = c == 34
ends_string (c ∷ d ∷ cs) = if c == 34 then d == 34 && ends_string cs else ends_string (d ∷ cs)

abbrev pub is_quoted : List ℕ → Bool
is_quoted s = behind (λ c. c == 34) ends_string s

-- an ASCII character between single quotes
abbrev pub is_character : List ℕ → Bool
is_character s = behind (λ c. c == 39) (behind (λ c. nat_lt c 128) (behind (λ c. c == 39) is_empty)) s
  where
    is_empty : List ℕ → Bool
    is_empty [] = true
    is_empty (c ∷ cs) = false

-- one digit or two
abbrev pub is_short : List ℕ → Bool
is_short [] = false
is_short (c ∷ []) = is_digit c
is_short (c ∷ d ∷ []) = is_digit c && is_digit d
is_short (c ∷ d ∷ e ∷ cs) = false

-- a reference to a local label: %, or %F or %B, and its number
abbrev pub is_local : List ℕ → Bool
is_local s = behind (λ c. c == 37) (λ t. is_short t || behind (λ c. c == 70 || c == 66) is_short t) s

-- whether two slices are equal
abbrev pub same : List ℕ → List ℕ → Bool
same [] [] = true
same [] (d ∷ ds) = false
same (c ∷ cs) [] = false
same (c ∷ cs) (d ∷ ds) = c == d && same cs ds

-- whether the slice is one of the words of a text with spaces between them
abbrev pub is_one_of : List ℕ → List ℕ → Bool
is_one_of text s = list_any (same s) (slice_split (λ c. c == 32) text)

-- the words in braces
abbrev pub braced_words : List ℕ
braced_words = codes "{TRUE} {FALSE} {PC} {VAR} {CONFIG} {CODESIZE} {ENDIAN}"

-- the operators, and the signs of the other forms
abbrev pub signs : List ℕ
signs = codes
    "+ - ? :NOT: :LNOT: :LEN: :CHR: :STR: :DEF: * / :MOD: :LEFT: :RIGHT: :CC: :ROL: :ROR: :SHL: :SHR: :AND: :OR: :EOR: = == <> /= < <= > >= :LAND: :LOR: :LEOR: ( ) . @ , # & % ^ ! [ | ] { }"

-- the form with the kind, where the test holds, or else the other form
abbrev pub form_or : Bool → TokenKind → Option TokenKind → Option TokenKind
form_or test kind other = if test then Some kind else other

-- the kind of token whose form a slice has
abbrev pub form_of : List ℕ → Option TokenKind
form_of s =
    form_or (is_name s) Name
    (form_or (is_barred s) Barred
    (form_or (is_number s) Number
    (form_or (is_quoted s) Quoted
    (form_or (is_character s) Character
    (form_or (is_one_of braced_words s) Braced
    (form_or (is_local s) Local (form_or (is_one_of signs s) Sign None)))))))
