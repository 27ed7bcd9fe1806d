use Rattle.std.proofs.Common.{drop}
use Rattle.link_values.specs.Regions.{AreNumbers}
use Rattle.link_values.proofs.regions.index_numbers.Given as goal

abbrev pub invariant-loop-i : goal.invariant-loop-i
invariant-loop-i l = AreNumbers (drop l.i l.numbers) l.index
