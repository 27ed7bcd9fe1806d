-- Reading by the grammar alone.
use Rattle.std.specs.Prelude.{if◌then◌else◌, List, [], ◌∷◌, Option, Some, None, option_and_then}
use Rattle.place_model.specs.declared.scatter.ScatterLoad.{ScatterLoad}
use Rattle.scatter_text.specs.declared.reading.Reader.{Reader}
use Rattle.scatter_text.specs.Parts.{Part}
use Rattle.scatter_text.specs.Reading.{shift, is_between_loads}

-- the load regions that the parts complete
abbrev pub ends : Reader → List Part → Option (List ScatterLoad)
ends s [] = if is_between_loads s.stage then Some s.loads else None
ends s (p ∷ ps) = option_and_then (λ t. ends t ps) (shift s p)
