use Rattle.std.proofs.Common.{◌≡◌, drop}
use Rattle.std.specs.Prelude.{slice_get}
use Rattle.link_values.specs.Shifts.{unmovable_in}
use Rattle.link_model.specs.Members.{link_of}
use Rattle.link_shifts.proofs.judging.refusal_of_object.Given as goal

abbrev pub invariant-loop-k : goal.invariant-loop-k
invariant-loop-k l =
    slice_get (unmovable_in (link_of l.image.linked.now) l.image.placement.now l.named l.object l.k (drop l.k l.named.value.areas)) 0
    ≡ slice_get (unmovable_in (link_of l.image.linked.now) l.image.placement.now l.named l.object 0 l.named.value.areas) 0
