-- The parameters of a macro, one by one.
use Rattle.std.proofs.Common.{◌≡◌, ℕ, ◌≤◌, List, ◌++◌, length, drop, Option, Some, None}
use Rattle.expand_model.specs.declared.macros.Parameter.{Parameter}
use Rattle.expand_model.specs.Prototypes.{parameters_of}

abbrev pub behind : List Parameter → Option (List Parameter) → Option (List Parameter)
behind ps None = None
behind ps (Some qs) = Some (ps ++ qs)

-- what is read so far, with what the rest says
pub record IsReading (texts : List (List ℕ)) (ps : List Parameter) (at : ℕ) : Type 0 where
  pub within : at ≤ length texts
  pub same : behind ps (parameters_of (drop at texts)) ≡ parameters_of texts
