use Rattle.std.proofs.Common.{◌≡◌, ◌+◌, drop, map}
use Rattle.std.specs.List.{filter}
use Rattle.place_model.specs.Faults.{lacking}
use Rattle.link_place.specs.Checks.{span_of}
use Rattle.link_place.specs.Writable.{lacks, least_with}
use Rattle.link_place.proofs.writable.least_of.Given as goal
use Rattle.std.proofs.Common.{[]}

abbrev pub invariant-loop-other : goal.invariant-loop-other
invariant-loop-other l = least_with l.best (filter (lacks l.ram l.range) (map (λ r. r.base + r.size) (drop l.other-index l.ram)))
    ≡ least_with l.fn.best (lacking l.ram (span_of [] l.range))
