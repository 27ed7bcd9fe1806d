use Rattle.std.proofs.Common.{[], List, ap, ◌∙◌}
use Rattle.std.specs.List.{flat_map}
use Rattle.std.proofs.lemmas.List.{take_all}
use Rattle.aof_object.specs.declared.records.Area.{Area}
use Rattle.aof_object.specs.Spelling.{content_of}
use Rattle.aof_object.proofs.Lists.{rows_more}
use Rattle.aof_object.proofs.writing.contents.Goals as goal

pub loop-area-preserved : goal.loop-area-preserved
loop-area-preserved c =
    rows_more content_of c.args.areas.now c.loop-area.area-index c.area-item.result [] c.loop-area.out.items c.push_content.new.out.items c.loop-area-test.true c.area-item.is c.loop-area.invariant c.in_ok-push_content.ensures

pub returns : goal.returns
returns c = c.loop-area.invariant ∙ ap (λ (l : List Area). flat_map content_of l) (take_all c.loop-area.area-index c.args.areas.now c.loop-area-test.false)
