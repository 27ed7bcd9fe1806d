-- Words of a table that are stored one after the other: those at the places where a number has a 1. This project's.
use Rattle.std.specs.Prelude.{ℕ, zero, suc, ◌+◌, List, [], ◌∷◌, ◌++◌, slice_index}
use Rattle.sdt_word.specs.Bytes.{bytes_of}
use Rattle.arm7_model.specs.Accesses.{next_word}

-- the bytes of the words at these places
abbrev pub picked_bytes : List ℕ → List ℕ → List ℕ
picked_bytes words [] = []
picked_bytes words (k ∷ ks) = bytes_of (slice_index words k) 4 ++ picked_bytes words ks

-- so many words from an address on
abbrev pub word_places : ℕ → ℕ → List (ℕ × ℕ)
word_places a zero = []
word_places a (suc n) = (a, 4) ∷ word_places (next_word a) n

-- four places one after the other
abbrev pub four_from : ℕ → List ℕ
four_from k = k ∷ (k + 1) ∷ (k + 2) ∷ (k + 3) ∷ []
