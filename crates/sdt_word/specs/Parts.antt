-- Numbers put side by side, as an encoding puts its fields: a part is a value and how many bits it has.
-- This project's.
use Rattle.std.specs.Prelude.{ℕ, ◌+◌, ◌*◌, ◌^◌, ◌<◌, List, [], ◌∷◌}

-- how many bits some parts have
abbrev pub total_width : List (ℕ × ℕ) → ℕ
total_width [] = 0
total_width (p ∷ ps) = p.1 + total_width ps

-- the number whose bits are those of the parts, the first part's highest
abbrev pub joined : List (ℕ × ℕ) → ℕ
joined [] = 0
joined (p ∷ ps) = p.0 * 2 ^ total_width ps + joined ps

-- each value has as many bits as it is to have
abbrev pub PartsFit : List (ℕ × ℕ) → Type 0
PartsFit [] = Unit {0}
PartsFit (p ∷ ps) = (p.0 < 2 ^ p.1) × PartsFit ps
