-- Numbers as bytes, lowest byte first, as the ARM7TDMI holds them in little-endian memory
-- (ARM Architecture Reference Manual, memory formats).
use Rattle.std.specs.Prelude.{ℕ, zero, suc, ◌+◌, ◌*◌, ◌/◌, ◌%◌, List, [], ◌∷◌, ◌++◌, length, take, drop}

-- the k lowest bytes of v, the lowest first
abbrev pub bytes_of : ℕ → ℕ → List ℕ
bytes_of v zero = []
bytes_of v (suc k) = v % 256 ∷ bytes_of (v / 256) k

-- the number that some bytes make, the lowest first
abbrev pub number_of : List ℕ → ℕ
number_of [] = 0
number_of (b ∷ bs) = b + 256 * number_of bs

-- the n bytes that a map holds from an address on
abbrev pub load : (ℕ → ℕ) → ℕ → ℕ → List ℕ
load m a zero = []
load m a (suc n) = m a ∷ load m (suc a) n

-- the word and the half-word that a map holds at an address
abbrev pub word : (ℕ → ℕ) → ℕ → ℕ
word m a = number_of (load m a 4)

abbrev pub half : (ℕ → ℕ) → ℕ → ℕ
half m a = number_of (load m a 2)

-- the word and the half-word in some bytes from a place on
abbrev pub word_in : List ℕ → ℕ → ℕ
word_in bs at = number_of (take 4 (drop at bs))

abbrev pub half_in : List ℕ → ℕ → ℕ
half_in bs at = number_of (take 2 (drop at bs))

-- some bytes with others written over them from a place on
abbrev pub written : List ℕ → ℕ → List ℕ → List ℕ
written old at bs = take at old ++ (bs ++ drop (at + length bs) old)
