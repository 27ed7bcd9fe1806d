use Rattle.std.proofs.Common.{List, ◌++◌, ap, ◌∙◌}
use Rattle.std.specs.List.{flat_map}
use Rattle.std.proofs.lemmas.List.{take_all}
use Rattle.aof_object.specs.declared.records.Area.{Area}
use Rattle.aof_object.specs.Spelling.{area_row}
use Rattle.aof_object.proofs.Lists.{rows_more}
use Rattle.aof_object.proofs.writing.push_areas.Goals as goal

pub loop-area-preserved : goal.loop-area-preserved
loop-area-preserved c = λ ns t.
    rows_more (area_row ns) c.args.areas.now c.loop-area.area-index c.area-item.result c.args.out.now.items c.loop-area.out.items c.push_area.new.out.items c.loop-area-test.true c.area-item.is (c.loop-area.invariant ns t)
    (c.in_ok-push_area.ensures ns t)

pub returns : goal.returns
returns c = λ ns t.
    c.loop-area.invariant ns t ∙ ap (λ (l : List Area). c.args.out.now.items ++ flat_map (area_row ns) l) (take_all c.loop-area.area-index c.args.areas.now c.loop-area-test.false)
