use Rattle.std.proofs.Common.{◌≡◌, ◌++◌, drop}
use Rattle.armlink_core.specs.Images.{loads_from}
use Rattle.armlink_core.proofs.loads.described_loads.Given as goal

abbrev pub invariant-loop-k : goal.invariant-loop-k
invariant-loop-k l = l.out.items ++ loads_from l.k l.regions l.parts (drop l.k l.loads) ≡ loads_from 0 l.regions l.parts l.loads
