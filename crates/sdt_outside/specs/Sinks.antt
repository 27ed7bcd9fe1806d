-- What a sink got, where it tells it. This project's.
use Rattle.std.specs.Prelude.{◌≡◌, ℕ, List, ◌++◌, Option, Some, None}

-- the sink got this piece
abbrev pub Got : Option (List ℕ) → Option (List ℕ) → List ℕ → Type 0
Got None now piece = now ≡ None
Got (Some before) now piece = now ≡ Some (before ++ piece)

-- the sink got a beginning of this piece
abbrev pub GotPart : Option (List ℕ) → Option (List ℕ) → List ℕ → Type 0
GotPart before now piece = (part : List ℕ) × (rest : List ℕ) × (piece ≡ part ++ rest) × Got before now part
