-- What the code's functions say of the rest of a text. This project's.
use Rattle.std.specs.Prelude.{◌≡◌, ℕ, ◌^◌, nat_lt, if◌then◌else◌, ◌==◌, not, false, List, [], ◌∷◌, Option, Some, None, option_map, Result, drop}
use Rattle.std.specs.List.{prefix_len}
use Rattle.sdt_fault.specs.declared.kinds.ScatterKind.{ScatterKind}
use Rattle.place_model.specs.declared.scatter.ScatterBase.{ScatterBase}
use Rattle.scatter_text.specs.Parts.{is_gap, parts}
use Rattle.scatter_text.specs.Words.{base_number, base_of}
use Rattle.scatter_text.specs.Reading.{judged, number_flaw, flaw_in}

-- nothing is left, or a part begins
abbrev pub IsBegun : List ℕ → Type 0
IsBegun [] = Unit {0}
IsBegun (b ∷ bs) = is_gap false b bs ≡ false

-- a number of 32 bits
abbrev pub small : ℕ → Option ℕ
small n = if nat_lt n (2 ^ 32) then Some n else None

-- from both lines on the two texts have the same parts
abbrev pub SameParts : ℕ → List ℕ → ℕ → List ℕ → Type 0
SameParts line rest from text = (depth : ℕ) → parts false depth line rest ≡ parts false depth from text

-- what follows the comment that such a byte begins, or the byte
abbrev pub behind_sign : ℕ → List ℕ → List ℕ
behind_sign b behind = if b == 59 then drop (prefix_len (λ c. not (c == 10)) behind) behind else behind

abbrev pub judged_number : ℕ → Result ℕ ScatterKind
judged_number n = judged (number_flaw n) (Some n)

abbrev pub judged_base : (ℕ → ScatterBase) → Option ℕ → Result ScatterBase ScatterKind
judged_base f number = judged (flaw_in number) (option_map f number)

abbrev pub base_in : List ℕ → Result ScatterBase ScatterKind
base_in text = judged (flaw_in (base_number text)) (base_of text)
