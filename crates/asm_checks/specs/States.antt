-- The states of a source's areas, by its statements so far. This project's. Statements are listed with the nearest first.
use Rattle.std.specs.Prelude.{◌≡◌, ℕ, List, Bool, Option}
use Rattle.std.specs.Ordering.{nat_cmp}
use Rattle.std.specs.BTreeMap.{get}
use Rattle.asm_model.specs.declared.statements.Statement.{Statement}
use Rattle.asm_model.specs.LayoutKinds.{first_state}
use Rattle.asm_checks.specs.declared.states.States.{States}

abbrev pub state_in : States → ℕ → Option Bool
state_in s area = get nat_cmp s.first area

-- of each area the state of its first instruction
abbrev pub AreStates : List Statement → States → Type 0
AreStates statements s = (area : ℕ) → state_in s area ≡ first_state area statements
