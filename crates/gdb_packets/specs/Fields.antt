-- The fields of packets. gdb's manual, "Remote Serial Protocol", Overview (numbers, binary data) and Packets.
use Rattle.std.specs.Prelude.{ℕ, ◌+◌, ◌*◌, ◌^◌, ◌==◌, ◌&&◌, nat_lt, nat_le, bit_xor, Bool, true, false, if◌then◌else◌, position}
use Rattle.std.specs.Prelude.{List, [], ◌∷◌, length, take, drop, slice_index, Option, Some, None, Result, Ok, Err}
use Rattle.std.specs.List.{list_all}
use Rattle.std.specs.Char.{digit_value}
use Rattle.std.specs.Str.Parse.{digits_value}
use Rattle.hex.specs.Hex.{decode_of, decode_sized}
use Rattle.hex.specs.declared.error.FromHexError.{FromHexError}

-- the number that one or more hexadecimal digits write, below 2^32
abbrev pub number : List ℕ → Option ℕ
number text =
    if nat_lt 0 (length text) && list_all (λ d. nat_lt (digit_value d) 16) text
    then (if nat_le (digits_value 16 text) 0xFFFFFFFF then Some (digits_value 16 text) else None) else None

-- what stands before the first such mark, and what behind it
abbrev pub cut_at : List ℕ → Option ℕ → Option (List ℕ × List ℕ)
cut_at text None = None
cut_at text (Some i) = Some (take i text, drop (i + 1) text)

abbrev pub cut : ℕ → List ℕ → Option (List ℕ × List ℕ)
cut mark text = cut_at text (position (λ b. b == mark) text)

-- two numbers with a mark between them
abbrev pub both : Option ℕ → Option ℕ → Option (ℕ × ℕ)
both None n = None
both (Some a) None = None
both (Some a) (Some n) = Some (a, n)

abbrev pub pair_of : Option (List ℕ × List ℕ) → Option (ℕ × ℕ)
pair_of None = None
pair_of (Some p) = both (number p.0) (number p.1)

abbrev pub pair : ℕ → List ℕ → Option (ℕ × ℕ)
pair mark text = pair_of (cut mark text)

-- the word of four bytes, the lowest first
abbrev pub little : List ℕ → ℕ
little bytes = slice_index bytes 0 + 2 ^ 8 * slice_index bytes 1 + 2 ^ 16 * slice_index bytes 2 + 2 ^ 24 * slice_index bytes 3

-- the bytes that pairs of digits write, in either case, and the word of four
abbrev pub decoded : Result (List ℕ) FromHexError → Option (List ℕ)
decoded (Ok bytes) = Some bytes
decoded (Err e) = None

abbrev pub bytes_in : List ℕ → Option (List ℕ)
bytes_in text = decoded (decode_of text)

abbrev pub word_of : Result (List ℕ) FromHexError → Option ℕ
word_of (Ok bytes) = Some (little bytes)
word_of (Err e) = None

abbrev pub word : List ℕ → Option ℕ
word text = word_of (decode_sized text 4)

-- binary data with escapes, the first behind `}` or not: there a byte stands with its bit 5 changed
abbrev pub unescaped : Bool → List ℕ → List ℕ
unescaped behind [] = []
unescaped true (b ∷ rest) = bit_xor b 32 ∷ unescaped false rest
unescaped false (b ∷ rest) = if b == 125 then unescaped true rest else b ∷ unescaped false rest
