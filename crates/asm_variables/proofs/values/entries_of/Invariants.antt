use Rattle.std.proofs.Common.{◌≡◌, ◌++◌, drop}
use Rattle.asm_expr.specs.Places.{one_entry}
use Rattle.expand_model.specs.States.{State}
use Rattle.asm_variables.specs.Entries.{items_entries}
use Rattle.asm_variables.specs.Expanding.{Represents}
use Rattle.asm_variables.specs.Known.{all_entries}
use Rattle.asm_variables.proofs.values.entries_of.Given as goal

abbrev pub invariant-items : goal.invariant-items
invariant-items l =
    (s : State) → Represents l.state s
    → (l.names ++ one_entry l.last) ++ items_entries (all_entries l.visible s) (drop l.item-index l.items) ≡ items_entries (all_entries l.visible s) l.items
