use Rattle.std.proofs.Common.{◌≡◌, ◌+◌, drop, sum_by}
use Rattle.link_report.specs.Regions.{length_in}
use Rattle.link_report.proofs.regions.load_size.Given as goal

abbrev pub invariant-loop-region : goal.invariant-loop-region
invariant-loop-region l = l.size + sum_by (length_in l.number) (drop l.region-index l.regions) ≡ sum_by (length_in l.number) l.regions
