use Rattle.std.proofs.Common.{◌≡◌, ◌≤◌, ◌-◌, [], length}
use Rattle.std.specs.Prelude.{Vec}
use Rattle.std.specs.List.{AllByRecursion}
use Rattle.std.specs.declared.alloc.Global.{Global}
use Rattle.asm_names.specs.declared.search.Waiting.{Waiting}
use Rattle.asm_names.proofs.search.no_waiting.Given as goal

abbrev pub invariant-lists : goal.invariant-lists
invariant-lists l = (length l.waits.items ≤ l.count) × AllByRecursion (λ (v : Vec Waiting Global). v.items ≡ []) l.waits.items

abbrev pub decreases-lists : goal.decreases-lists
decreases-lists l = l.count - length l.waits.items
