-- Numbers in a debugger's script: decimal digits, or 0x and hexadecimal digits in either case. Those from 2^32 on are
-- told as 2^32, which no command takes. This project's.
use Rattle.std.specs.Prelude.{ℕ, ◌^◌, ◌&&◌, nat_lt, nat_eq, min, if◌then◌else◌, List, length, drop, Option, Some, None, codes}
use Rattle.std.specs.List.{list_all, starts_with}
use Rattle.std.specs.Char.{digit_value}
use Rattle.std.specs.Str.Parse.{digits_value}

-- the number that digits of a base write, one or more
abbrev pub written : ℕ → List ℕ → Option ℕ
written base digits =
    if nat_lt 0 (length digits) && list_all (λ d. nat_lt (digit_value d) base) digits
    then Some (min (digits_value base digits) (2 ^ 32)) else None

-- the number that a word writes
abbrev pub number_of : List ℕ → Option ℕ
number_of word = if starts_with nat_eq word (codes "0x") then written 16 (drop 2 word) else written 10 word
