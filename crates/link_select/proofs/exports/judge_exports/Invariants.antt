use Rattle.std.proofs.Common.{◌≡◌, drop}
use Rattle.link_model.specs.Members.{objects_in}
use Rattle.link_select.specs.Index.{IsIndexOf}
use Rattle.link_select.specs.Exports.{duplicate, told}
use Rattle.link_select.proofs.exports.judge_exports.Given as goal

abbrev pub invariant-loop-i : goal.invariant-loop-i
invariant-loop-i l = record {
  index : IsIndexOf l.i (objects_in (drop l.i l.objects)) l.index;
  clash : told l.duplicate ≡ duplicate (drop l.i l.objects);
}
