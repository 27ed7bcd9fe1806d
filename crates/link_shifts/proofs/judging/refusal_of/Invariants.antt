use Rattle.std.proofs.Common.{◌≡◌, drop}
use Rattle.std.specs.Prelude.{slice_get}
use Rattle.link_values.specs.Shifts.{not_relocatable, unmovable_from}
use Rattle.link_model.specs.Members.{link_of}
use Rattle.link_shifts.proofs.judging.refusal_of.Given as goal

abbrev pub invariant-loop-i : goal.invariant-loop-i
invariant-loop-i l =
    slice_get (unmovable_from (link_of l.image.linked.now) l.image.placement.now l.i (drop l.i l.image.linked.now.objects)) 0
    ≡ not_relocatable l.image.linked.now l.image.placement.now
