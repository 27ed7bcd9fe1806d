use Rattle.std.proofs.Common.{◌≡◌, ◌++◌, drop}
use Rattle.link_report.specs.Regions.{veneers_text}
use Rattle.link_report.proofs.regions.push_veneers.Given as goal

abbrev pub invariant-loop-placed : goal.invariant-loop-placed
invariant-loop-placed l = l.out.items ++ veneers_text l.objects l.placement l.number (drop l.placed-index l.veneers) ≡ l.fn.out.items ++ veneers_text l.objects l.placement l.number l.veneers
