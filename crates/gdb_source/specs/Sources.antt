-- What a source gives, where it tells what is left. This project's.
use Rattle.std.specs.Prelude.{ℕ, List, [], ◌∷◌, Option, Some, None}
use Rattle.std.specs.Io.KnownBytes.{Consumes, IsAtEnd}

-- the source gave its first byte, or none is left
abbrev pub Gives : Option (List ℕ) → Option (List ℕ) → Option ℕ → Type 0
Gives before now (Some b) = Consumes before now (b ∷ [])
Gives before now None = Consumes before now [] × IsAtEnd now
