-- Steps of the operands. This project's.
use Rattle.std.specs.Prelude.{◌≡◌, ℕ, List, [], ◌∷◌, ◌++◌, map, not}
use Rattle.std.specs.List.{filter}
use Rattle.expand_model.specs.Standing.{Byte, is_in_comment, before_comment}
use Rattle.expand_model.specs.Words as model

-- bytes without those in the comment
abbrev pub uncommented : List Byte → List Byte
uncommented bs = filter (λ b. not (is_in_comment b.1)) bs

-- bytes in front of pieces
abbrev pub fronted : List ℕ → List (List ℕ) → List (List ℕ)
fronted piece [] = piece ∷ []
fronted piece (s ∷ ss) = (piece ++ s) ∷ ss

-- the arguments so far, with those that a piece so far begins
abbrev pub with_pieces : List (List ℕ) → List ℕ → List (List ℕ) → List (List ℕ)
with_pieces done piece ps = done ++ map model.trimmed (fronted piece ps)

-- a byte is taken, whatever bytes stand behind it
abbrev pub Takes : Byte → List (List ℕ) → List ℕ → List (List ℕ) → List ℕ → Type 0
Takes b done piece newer new =
    (bs : List Byte) → with_pieces newer new (model.pieces bs) ≡ with_pieces done piece (model.pieces (b ∷ bs))

-- the pieces of a text before its comment, each without the blanks around it
abbrev pub trimmed_pieces : List ℕ → List (List ℕ)
trimmed_pieces text = map model.trimmed (model.pieces (before_comment text))
