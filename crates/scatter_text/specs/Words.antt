-- What the parts of a scatter description mean: names, numbers and the words behind `+` (SDT 2.50 Reference Guide,
-- scatter loading; this project's for the letters of names).
use Rattle.std.specs.Prelude.{ℕ, ◌==◌, ◌&&◌, ◌||◌, not, nat_lt, nat_eq, Bool, if◌then◌else◌, List, length, drop, map, min, codes, bytes_eq, Option, Some, None, option_map}
use Rattle.std.specs.List.{list_all, starts_with}
use Rattle.std.specs.Char.{is_ascii_alphanumeric, is_ascii_digit, is_ascii_hexdigit, to_ascii_lowercase}
use Rattle.std.specs.Str.Parse.{digits_value}
use Rattle.place_model.specs.declared.scatter.Choice.{Choice}
use Rattle.place_model.specs.declared.scatter.Choice.TheVariants.{Named, Ro, Rw, Zi}
use Rattle.place_model.specs.declared.scatter.Edge.{Edge}
use Rattle.place_model.specs.declared.scatter.Edge.TheVariants.{First, Last}
use Rattle.place_model.specs.declared.scatter.ScatterBase.{ScatterBase}
use Rattle.place_model.specs.declared.scatter.ScatterBase.TheVariants.{At, Plus}
use Rattle.scatter_text.specs.Parts.{is_name_byte, first_is}

-- lines from 2^32 on are told as 2^32 - 1
abbrev pub told : ℕ → ℕ
told line = min line 0xFFFFFFFF

-- ---- names

-- a letter, a digit or `_`
abbrev pub is_region_byte : ℕ → Bool
is_region_byte b = is_ascii_alphanumeric b || b == 95

abbrev pub is_region_name : List ℕ → Bool
is_region_name text = nat_lt 0 (length text) && list_all is_region_byte text

abbrev pub is_name : List ℕ → Bool
is_name text = nat_lt 0 (length text) && list_all is_name_byte text

abbrev pub one_module : List ℕ → Option (Option (List ℕ))
one_module text = if is_name text then Some (Some text) else None

-- a module's name, or None for `*`
abbrev pub module_of : List ℕ → Option (Option (List ℕ))
module_of text = if bytes_eq text (codes "*") then Some None else one_module text

-- ---- numbers

abbrev pub written : ℕ → (ℕ → Bool) → List ℕ → Option ℕ
written base is_digit digits =
    if nat_lt 0 (length digits) && list_all is_digit digits then Some (digits_value base digits) else None

abbrev pub hexadecimal : List ℕ → Option ℕ
hexadecimal digits = written 16 is_ascii_hexdigit digits

abbrev pub decimal : List ℕ → Option ℕ
decimal digits = written 10 is_ascii_digit digits

-- decimal, or hexadecimal behind `0x` or `&`
abbrev pub number_of : List ℕ → Option ℕ
number_of text =
    if starts_with nat_eq text (codes "0x") then hexadecimal (drop 2 text)
    else if first_is 38 text then hexadecimal (drop 1 text)
    else decimal text

-- the number of a base, which may stand behind `+`
abbrev pub base_number : List ℕ → Option ℕ
base_number text = if first_is 43 text then number_of (drop 1 text) else number_of text

abbrev pub base_of : List ℕ → Option ScatterBase
base_of text = if first_is 43 text then option_map Plus (number_of (drop 1 text)) else option_map At (number_of text)

-- ---- selectors

-- the same letters, in any case
abbrev pub is_word : List ℕ → List ℕ → Bool
is_word word text = bytes_eq (map to_ascii_lowercase text) (map to_ascii_lowercase word)

abbrev pub area_of : List ℕ → Option Choice
area_of text = if not (first_is 43 text) && is_name text then Some (Named text) else None

abbrev pub choice_of : List ℕ → Option Choice
choice_of text =
    if is_word (codes "+RO") text then Some Ro
    else if is_word (codes "+RW") text then Some Rw
    else if is_word (codes "+ZI") text then Some Zi
    else area_of text

abbrev pub edge_of : List ℕ → Option Edge
edge_of text =
    if is_word (codes "+FIRST") text then Some First
    else if is_word (codes "+LAST") text then Some Last
    else None
