-- What offsets keep: padding is the least that serves, statements of an area don't overlap, and the word of each literal
-- lies in its area, aligned to 4. A statement's alignment needs no values. This project's.
use Rattle.std.specs.Prelude.{◌≡◌, ℕ, ◌+◌, ◌%◌, ◌≤◌, List, [], ◌∷◌}
use Rattle.asm_model.specs.declared.values.Value.{Value}
use Rattle.asm_model.specs.declared.values.Value.TheVariants.{Number, Truth, Words, Place}
use Rattle.asm_model.specs.Offsets.{Piece, lacking}

-- so many bytes reach an offset that is the multiple plus the number, and no fewer do
abbrev pub PaddingIsLeast : Type 0
PaddingIsLeast =
    (at multiple n : ℕ) → 1 ≤ multiple
    → ((at + lacking at multiple n) % multiple ≡ n % multiple)
    × ((d : ℕ) → (at + d) % multiple ≡ n % multiple → lacking at multiple n ≤ d)

-- all statements, where these stand before and these behind
abbrev pub joined : List Piece → List Piece → List Piece
joined before [] = before
joined before (s ∷ rest) = joined (s ∷ before) rest

-- a number, or a name plus a number
abbrev pub IsLiteral : Value → Type 0
IsLiteral (Number n) = Unit {0}
IsLiteral (Place s n) = Unit {0}
IsLiteral (Truth b) = ⊥
IsLiteral (Words w) = ⊥
