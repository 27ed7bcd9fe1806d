use Rattle.std.proofs.Common.{◌≡◌, ◌++◌, drop}
use Rattle.link_report.specs.Regions.{regions_text}
use Rattle.link_report.proofs.regions.push_regions.Given as goal

abbrev pub invariant-loop-k : goal.invariant-loop-k
invariant-loop-k l = l.out.items ++ regions_text l.kind l.objects l.placement l.k (drop l.k l.placement.regions) ≡ l.fn.out.items ++ regions_text l.kind l.objects l.placement 0 l.placement.regions
