use Rattle.std.proofs.Common.{◌≡◌, ◌*◌, ◌^◌, ◌≤◌, take}
use Rattle.aof_object.specs.Objects.{total}
use Rattle.aof_object.proofs.areas.total_of.Given as goal

abbrev pub invariant-loop-head : goal.invariant-loop-head
invariant-loop-head l = record { so_far : l.total ≡ total (take l.head-index l.heads); most : l.total ≤ l.head-index * 2 ^ 36 }
