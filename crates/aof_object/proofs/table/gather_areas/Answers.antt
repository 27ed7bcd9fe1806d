use Rattle.std.proofs.Common.{List, take, subst}
use Rattle.std.proofs.lemmas.List.{take_all}
use Rattle.aof_object.specs.Spelling.{gathered, area_names}
use Rattle.aof_object.specs.Places.{IsTable}
use Rattle.aof_object.specs.declared.records.Area.{Area}
use Rattle.aof_object.proofs.TableLemmas.{gathered_more}
use Rattle.aof_object.proofs.table.gather_areas.Goals as goal

pub loop-area-preserved : goal.loop-area-preserved
loop-area-preserved c = λ ns t.
    rw (gathered_more (λ (x : Area). x.name) ns c.args.areas.now c.loop-area.area-index c.area-item.result c.loop-area-test.true c.area-item.is)
    (rw (← c.as_slice.ensures) (c.in_ok-gather_name.ensures (gathered ns (area_names (take c.loop-area.area-index c.args.areas.now))) (c.loop-area.invariant ns t)))

pub returns : goal.returns
returns c = λ ns t.
    subst (λ (l : List Area). IsTable c.loop-area.bytes.items c.loop-area.places (gathered ns (area_names l))) (take_all c.loop-area.area-index c.args.areas.now c.loop-area-test.false) (c.loop-area.invariant ns t)
