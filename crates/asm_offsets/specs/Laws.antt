-- Where the word of a statement's literal stands, and what statements' extents are. This project's.
use Rattle.std.specs.Prelude.{◌≡◌, ℕ, List, [], ◌∷◌, Some, Ok}
use Rattle.asm_model.specs.declared.values.Value.{Value}
use Rattle.asm_model.specs.declared.statements.What.{What}
use Rattle.asm_model.specs.declared.names.Names.{Names}
use Rattle.asm_offsets.specs.Coded.{IsExtent}
use Rattle.asm_offsets.specs.Running.{pools_behind}
use Rattle.asm_pool.specs.Pooled.{noted, flushed, place_of}
use Rattle.asm_model.specs.Extents.{Extent, Loading, Pool, extent_of}
use Rattle.asm_model.specs.Offsets.{Piece, start_in, literal_word}
use Rattle.asm_model.specs.OffsetLaws.{joined}

-- what statements take up can be placed
abbrev pub ExtentsArePlaceable : Type 0
ExtentsArePlaceable = (s : Names) (w : What) (e : Extent) → extent_of s w ≡ Ok e → IsExtent e

abbrev pub AllExtents : List Piece → Type 0
AllExtents [] = Unit {0}
AllExtents (s ∷ ss) = IsExtent s.extent × AllExtents ss

-- when an area is laid out, the entry that a statement's literal was given stands at the literal's word
abbrev pub LiteralsArePlaced : Type 0
LiteralsArePlaced =
    (area : ℕ) (before rest : List Piece) (s : Piece) (n : ℕ) (v : Value)
    → s.area ≡ Some area → s.extent ≡ Loading n v → AllExtents before → IsExtent s.extent → AllExtents rest
    → place_of (noted v (pools_behind area before)).0
    (flushed (start_in area (joined (s ∷ before) rest) Pool) (pools_behind area (joined (s ∷ before) rest)))
    ≡ Some (literal_word area (s ∷ before) rest v)
