use Rattle.std.proofs.Common.{drop}
use Rattle.link_values.specs.Bases.{AreAddresses}
use Rattle.link_values.proofs.bases.index_areas.Given as goal

abbrev pub invariant-loop-i : goal.invariant-loop-i
invariant-loop-i l = AreAddresses l.boot (drop l.i l.areas) l.addresses
