use Rattle.std.proofs.Common.{◌≡◌, ◌++◌, drop, map}
use Rattle.link_place.specs.Merging.{merged_part}
use Rattle.link_place.proofs.merging.merged_parts.Given as goal

abbrev pub invariant-loop-part : goal.invariant-loop-part
invariant-loop-part l = l.out.items ++ map merged_part (drop l.part-index l.parts) ≡ map merged_part l.parts
