use Rattle.std.proofs.Common.{◌≡◌, ◌++◌, drop}
use Rattle.link_report.specs.Regions.{loads_text}
use Rattle.link_report.proofs.regions.push_described.Given as goal

abbrev pub invariant-loop-k : goal.invariant-loop-k
invariant-loop-k l = l.out.items ++ loads_text l.regions l.k (drop l.k l.loads) ≡ l.fn.out.items ++ loads_text l.regions 0 l.loads
