use Rattle.std.proofs.Common.{◌≡◌, ◌+◌, take}
use Rattle.link_select.specs.Selection.{count_symbols}
use Rattle.link_select.proofs.limits.more_symbols_than.Given as goal

abbrev pub invariant-loop-object : goal.invariant-loop-object
invariant-loop-object l = l.room + count_symbols (take l.object-index l.objects) ≡ l.limit
