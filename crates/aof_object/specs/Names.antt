-- Names: as a string table holds them, each ended by a zero byte, and found among others
-- (SDT 2.50 Reference Guide, ARM Object Format, string table chunk).
use Rattle.std.specs.Prelude.{◌≡◌, ◌≢◌, ℕ, zero, suc, ◌≤◌, Bool, false, ◌||◌, nat_lt, if◌then◌else◌, List, [], ◌∷◌, ◌++◌, drop, Option, Some, None}
use Rattle.std.specs.List.{AllByRecursion}
use Rattle.std.specs.Option.{option_map}
use Rattle.std.specs.Str.{bytes_eq}

-- the bytes before the first zero byte, where there is one
abbrev pub terminated : List ℕ → Option (List ℕ)
terminated [] = None
terminated (zero ∷ bs) = Some []
terminated (suc b ∷ bs) = option_map (λ n. suc b ∷ n) (terminated bs)

-- the name at an offset of a string table, whose first four bytes are its length
unfoldable pub name_at : List ℕ → ℕ → Option (List ℕ)
name_at strings at = if nat_lt at 4 then None else terminated (drop at strings)

-- a name has no zero byte
abbrev pub IsText : List ℕ → Type 0
IsText name = AllByRecursion (λ b. b ≢ 0) name

-- the string table holds the name at the offset, with a zero byte behind it
pub record IsNameAt (strings : List ℕ) (at : ℕ) (name : List ℕ) : Type 0 where
  pub after_length : 4 ≤ at
  pub is_text : IsText name
  pub stands : (rest : List ℕ) × (drop at strings ≡ name ++ (0 ∷ rest))

-- the name is one of some
abbrev pub among : List ℕ → List (List ℕ) → Bool
among q [] = false
among q (n ∷ ns) = bytes_eq n q || among q ns

-- it is none of them
abbrev pub Lacks : List (List ℕ) → List ℕ → Type 0
Lacks ns q = AllByRecursion (λ n. n ≢ q) ns

-- its number among some that are counted from i on, at its first place
abbrev pub number_from : ℕ → List ℕ → List (List ℕ) → Option ℕ
number_from i q [] = None
number_from i q (n ∷ ns) = if bytes_eq n q then Some i else number_from (suc i) q ns
