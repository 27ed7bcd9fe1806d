use Rattle.std.proofs.Common.{◌≡◌, take, map}
use Rattle.link_place.specs.Parts.{load_group}
use Rattle.link_place.proofs.parts.groups_of_loads.Given as goal

abbrev pub invariant-loop-load : goal.invariant-loop-load
invariant-loop-load l = l.out.items ≡ map load_group (take l.load-index l.loads)
