use Rattle.std.proofs.Common.{◌≡◌, take, map}
use Rattle.link_place.proofs.placing.regions_of.Given as goal

abbrev pub invariant-loop-laid : goal.invariant-loop-laid
invariant-loop-laid l = l.out.items ≡ map (λ r. r.region) (take l.laid-index l.regions)
