use Rattle.std.proofs.Common.{List, ap, ◌∙◌}
use Rattle.std.specs.Prelude.{is_some, ◌||◌}
use Rattle.aof_object.specs.declared.records.Area.{Area}
use Rattle.aof_object.specs.Names.{among}
use Rattle.aof_object.specs.Spelling.{area_names}
use Rattle.link_select.specs.Index.{number_in}
use Rattle.link_select.proofs.RegionLemmas.{object_names_more}
use Rattle.link_select.proofs.regions.index_area_names.Goals as goal

pub loop-object-preserved : goal.loop-object-preserved
loop-object-preserved c = λ q.
    object_names_more c.loop-object.index c.put_area_names.new.index c.args.objects.now c.loop-object.object-index c.object-item.result q c.loop-object-test.true c.object-item.is (c.loop-object.invariant q)
    (c.in_ok-put_area_names.ensures q ∙ ap (λ (l : List Area). is_some (number_in c.loop-object.index q) || among q (area_names l)) c.as_slice.ensures)
