use Rattle.std.proofs.Common.{◌≡◌, drop}
use Rattle.std.specs.Prelude.{slice_get}
use Rattle.std.specs.List.{filter_map}
use Rattle.link_values.specs.Shifts.{unmovable}
use Rattle.link_model.specs.Members.{link_of}
use Rattle.link_shifts.proofs.judging.first_refusal.Given as goal

abbrev pub invariant-loop-reloc : goal.invariant-loop-reloc
invariant-loop-reloc l =
    slice_get (filter_map (unmovable (link_of l.image.linked.now) l.image.placement.now l.judged.named.now l.judged.object l.judged.number l.judged.area.now) (drop l.reloc-index l.relocs)) 0
    ≡ slice_get (filter_map (unmovable (link_of l.image.linked.now) l.image.placement.now l.judged.named.now l.judged.object l.judged.number l.judged.area.now) l.relocs) 0
