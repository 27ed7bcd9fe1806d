use Rattle.std.proofs.Common.{◌≡◌, ◌++◌, drop}
use Rattle.armlink_core.specs.Images.{bytes_in}
use Rattle.armlink_core.proofs.loads.bytes_in.Given as goal

abbrev pub invariant-loop-i : goal.invariant-loop-i
invariant-loop-i l = l.out.items ++ bytes_in l.number (drop l.i l.regions) (drop l.i l.parts) ≡ bytes_in l.number l.regions l.parts
