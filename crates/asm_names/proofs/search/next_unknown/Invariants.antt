use Rattle.std.proofs.Common.{◌≡◌, ◌≤◌, ◌-◌, length, drop}
use Rattle.asm_names.specs.Search.{unknown_from}
use Rattle.asm_names.proofs.search.next_unknown.Given as goal

abbrev pub invariant-items : goal.invariant-items
invariant-items l =
    (l.item ≤ length l.items) × (unknown_from l.index l.known l.item (drop l.item l.items) ≡ unknown_from l.index l.known l.from (drop l.from l.items))

abbrev pub decreases-items : goal.decreases-items
decreases-items l = length l.items - l.item
