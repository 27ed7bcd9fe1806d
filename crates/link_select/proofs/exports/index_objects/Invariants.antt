use Rattle.std.proofs.Common.{drop}
use Rattle.link_model.specs.Members.{objects_in}
use Rattle.link_select.specs.Index.{IsIndexOf}
use Rattle.link_select.proofs.exports.index_objects.Given as goal

abbrev pub invariant-loop-i : goal.invariant-loop-i
invariant-loop-i l = IsIndexOf l.i (objects_in (drop l.i l.objects)) l.index
