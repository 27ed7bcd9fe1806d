-- The fields of a map's lines: names, addresses and sizes in eight upper-case hexadecimal digits, decimal
-- numbers, and how fields stand with one space between. This project's.
use Rattle.std.specs.Prelude.{ℕ, ◌==◌, ◌&&◌, ◌||◌, not, nat_lt, nat_le, Bool, if◌then◌else◌, List, [], ◌∷◌, length, Option, Some, None, option_map, option_and_then, bytes_eq}
use Rattle.std.specs.List.{list_all}
use Rattle.std.specs.Char.{is_ascii_alphanumeric}
use Rattle.std.specs.Str.Parse.{digits_value}
use Rattle.std.specs.Fmt.{decimal}
use Rattle.sdt_fault.specs.Digits.{hexadecimal_places}

infixl 10 ◌>>=◌
abbrev pub ◌>>=◌ : {A B : Type 0} → Option A → (A → Option B) → Option B
o >>= f = option_and_then f o

-- no byte of the text is this one
abbrev pub lacks : ℕ → List ℕ → Bool
lacks c text = list_all (λ b. not (b == c)) text

-- the text before the first such byte, and what follows that byte
abbrev pub cut : ℕ → List ℕ → Option (List ℕ × List ℕ)
cut c [] = None
cut c (b ∷ bs) = if b == c then Some ([], bs) else option_map (λ p. (b ∷ p.0, p.1)) (cut c bs)

-- a letter, a digit or '_'
abbrev pub is_word : ℕ → Bool
is_word c = is_ascii_alphanumeric c || c == 95

-- one or more of them
abbrev pub is_name : List ℕ → Bool
is_name name = nat_lt 0 (length name) && list_all is_word name

-- 0 to 9 and A to F
abbrev pub is_upper_digit : ℕ → Bool
is_upper_digit c = (nat_le 48 c && nat_le c 57) || (nat_le 65 c && nat_le c 70)

abbrev pub at_most : ℕ → ℕ → Option ℕ
at_most most n = if nat_le n most then Some n else None

-- eight digits, the highest first
unfoldable pub address : ℕ → List ℕ
address n = hexadecimal_places 8 n

-- the number that eight digits write
abbrev pub address_of : List ℕ → Option ℕ
address_of digits =
    if length digits == 8 && list_all is_upper_digit digits then at_most 0xFFFFFFFF (digits_value 16 digits) else None

-- the number of 64 bits whose decimal digits these are
abbrev pub decimal_of : List ℕ → Option ℕ
decimal_of digits =
    at_most 0xFFFFFFFFFFFFFFFF (digits_value 10 digits) >>= λ n. if bytes_eq (decimal n) digits then Some n else None
