use Rattle.std.proofs.Common.{◌≡◌, drop, map}
use Rattle.place_model.specs.Faults.{first_told, overfull}
use Rattle.link_place.specs.Checks.{judged_laid}
use Rattle.link_place.proofs.faults.first_overfull_laid.Given as goal

abbrev pub invariant-loop-laid : goal.invariant-loop-laid
invariant-loop-laid l = first_told overfull (map judged_laid (drop l.laid-index l.regions)) ≡ first_told overfull (map judged_laid l.regions)
