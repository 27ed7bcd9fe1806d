use Rattle.std.proofs.Common.{◌≡◌, ◌+◌, ◌++◌, drop}
use Rattle.link_place.specs.Parts.{contents_in, parts_from}
use Rattle.link_place.proofs.parts.push_parts.Given as goal

abbrev pub invariant-loop-i : goal.invariant-loop-i
invariant-loop-i l = l.out.items ++ parts_from l.input.kind.now (contents_in l.input) (l.first + l.i) (drop l.i l.regions)
    ≡ l.initial.out.items ++ parts_from l.input.kind.now (contents_in l.input) l.first l.regions
