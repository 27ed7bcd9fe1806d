-- Numbers on a command line: decimal digits, or 0x and hexadecimal digits in either case, at most 2^32 - 1. This
-- project's.
use Rattle.std.specs.Prelude.{ℕ, ◌^◌, Bool, false, nat_lt, nat_eq, if◌then◌else◌, List, [], ◌∷◌, Option, Some, None, codes, drop}
use Rattle.std.specs.List.{list_all, starts_with}
use Rattle.std.specs.Char.{digit_value}
use Rattle.std.specs.Str.Parse.{digits_value}

-- digits of a base, one or more
abbrev pub is_numeral : ℕ → List ℕ → Bool
is_numeral base [] = false
is_numeral base (c ∷ cs) = list_all (λ d. nat_lt (digit_value d) base) (c ∷ cs)

abbrev pub if_word : ℕ → Option ℕ
if_word n = if nat_lt n (2 ^ 32) then Some n else None

-- the number that digits of a base write, where it is one of 32 bits
abbrev pub numeral : ℕ → List ℕ → Option ℕ
numeral base digits = if is_numeral base digits then if_word (digits_value base digits) else None

-- the number that a word writes
abbrev pub number : List ℕ → Option ℕ
number word = if starts_with nat_eq word (codes "0x") then numeral 16 (drop 2 word) else numeral 10 word
