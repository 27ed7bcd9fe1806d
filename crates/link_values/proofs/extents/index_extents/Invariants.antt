use Rattle.std.proofs.Common.{drop}
use Rattle.link_model.specs.Members.{objects_in}
use Rattle.link_values.specs.Regions.{AreExtents}
use Rattle.link_values.proofs.extents.index_extents.Given as goal

abbrev pub invariant-loop-i : goal.invariant-loop-i
invariant-loop-i l = AreExtents (objects_in l.objects) (drop l.i l.areas) l.index
