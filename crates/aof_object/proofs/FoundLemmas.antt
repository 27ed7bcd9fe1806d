-- Finding the chunks of a name, entry by entry.
use Rattle.std.proofs.Common.{◌≡◌, List, [], ◌∷◌, refl}
use Rattle.chunk_file.specs.declared.records.Span.{Span}
use Rattle.aof_object.specs.declared.parts.Found.TheVariants.{Absent, Many}
use Rattle.aof_object.specs.Parts.{found_of, found_with}

many : (ss : List Span) → found_with Many ss ≡ Many
many [] = refl
many (s ∷ ss) = many ss

pub found_from : (ss : List Span) → found_with Absent ss ≡ found_of ss
found_from [] = refl
found_from (s ∷ []) = refl
found_from (s ∷ t ∷ ss) = many ss
