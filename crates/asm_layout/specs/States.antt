-- The states of a source's areas, by its statements so far. This project's.
use Rattle.std.specs.Prelude.{◌≡◌, List, []}
use Rattle.asm_checks.specs.declared.states.States.{States}
use Rattle.asm_checks.specs.States.{AreStates}
use Rattle.asm_laying.specs.declared.areas.Areas.{Areas}
use Rattle.asm_laying.specs.declared.carried.CarriedState.{CarriedState}
use Rattle.asm_laying.specs.Carried.{behind}
use Rattle.asm_laying.specs.Numbered.{AreNumbered}
use Rattle.asm_model.specs.declared.statements.Statement.{Statement}
use Rattle.asm_model.specs.Before.{areas_behind, area_behind}
use Rattle.asm_model.specs.Laid.{reversed}

-- the states of statements of which these are left
pub record AreNoted (statements left : List Statement) (areas : Areas) (b : CarriedState) (states : States) : Type 0 where
  -- those before, the last of them first
  pub before : List Statement
  pub whole : reversed left before ≡ reversed statements []
  pub standing : b ≡ behind before
  pub numbered : AreNumbered (areas_behind before) (area_behind before) [] areas
  pub noted : AreStates before states
