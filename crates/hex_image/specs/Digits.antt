-- Pairs of hexadecimal digits in either case, and the numbers that bytes make, the highest byte first. That a record has
-- digits is this project's rule.
use Rattle.std.specs.Prelude.{ℕ, ◌+◌, ◌*◌, ◌/◌, ◌%◌, ◌^◌, ◌==◌, if◌then◌else◌, List, [], ◌∷◌, length, drop, slice_index, Option, Some, None, Result, Ok, Err}
use Rattle.hex.specs.Hex.{decode_of}
use Rattle.hex.specs.declared.error.FromHexError.{FromHexError}

abbrev pub decoded : Result (List ℕ) FromHexError → Option (List ℕ)
decoded (Ok bytes) = Some bytes
decoded (Err e) = None

-- the bytes that a text of pairs of digits writes, one or more
abbrev pub digits_in : List ℕ → Option (List ℕ)
digits_in text = if length text == 0 then None else decoded (decode_of text)

-- the number that the first two bytes make, the first three, and the first four
abbrev pub half : List ℕ → ℕ
half bytes = 2 ^ 8 * slice_index bytes 0 + slice_index bytes 1

abbrev pub three : List ℕ → ℕ
three bytes = 2 ^ 16 * slice_index bytes 0 + half (drop 1 bytes)

abbrev pub word : List ℕ → ℕ
word bytes = 2 ^ 16 * half bytes + half (drop 2 bytes)

-- the two bytes of a half-word, and the four of a word
abbrev pub half_bytes : ℕ → List ℕ
half_bytes n = n / 2 ^ 8 ∷ n % 2 ^ 8 ∷ []

abbrev pub word_bytes : ℕ → List ℕ
word_bytes n = n / 2 ^ 24 ∷ n / 2 ^ 16 % 2 ^ 8 ∷ n / 2 ^ 8 % 2 ^ 8 ∷ n % 2 ^ 8 ∷ []
