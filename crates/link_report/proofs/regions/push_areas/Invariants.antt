use Rattle.std.proofs.Common.{◌≡◌, ◌++◌, drop}
use Rattle.link_report.specs.Regions.{areas_text}
use Rattle.link_report.proofs.regions.push_areas.Given as goal

abbrev pub invariant-loop-placed : goal.invariant-loop-placed
invariant-loop-placed l = l.out.items ++ areas_text l.objects l.number l.zeros (drop l.placed-index l.areas) ≡ l.fn.out.items ++ areas_text l.objects l.number l.zeros l.areas
