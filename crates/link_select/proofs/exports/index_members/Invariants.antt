use Rattle.std.proofs.Common.{drop}
use Rattle.link_model.specs.Members.{members_of, objects_in}
use Rattle.link_select.specs.Index.{IsIndexOf}
use Rattle.link_select.proofs.exports.index_members.Given as goal

abbrev pub invariant-loop-i : goal.invariant-loop-i
invariant-loop-i l = IsIndexOf l.i (objects_in (drop l.i (members_of l.archives))) l.index
