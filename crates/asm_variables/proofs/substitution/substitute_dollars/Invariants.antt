use Rattle.std.proofs.Common.{◌≤◌, ◌-◌, length}
use Rattle.expand_model.specs.States.{State, text_named}
use Rattle.asm_variables.specs.Variables.{HasTables}
use Rattle.asm_variables.proofs.substitution.substitute_dollars.Given as goal
use Rattle.asm_variables.proofs.SubstitutionLemmas.{IsSubstituting}

abbrev pub invariant-bytes : goal.invariant-bytes
invariant-bytes l =
    (l.at ≤ length l.text) × ((s : State) → HasTables l.tables s → IsSubstituting (text_named s) l.text l.out.items l.standing l.left l.dropped l.at)

abbrev pub decreases-bytes : goal.decreases-bytes
decreases-bytes l = length l.text - l.at
