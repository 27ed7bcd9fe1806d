use Rattle.tool_run.proofs.NeedLemmas.{map_needed}
use Rattle.tool_run.proofs.maps.loaded_image.Goals as goal

pub returns-in_ok-map_image-in-Ok-clause-needed : goal.returns-in_ok-map_image-in-Ok-clause-needed
returns-in_ok-map_image-in-Ok-clause-needed c =
    let judged = rw (c.as_slice.ensures, c.as_slice-2.ensures.value) at c.in-Ok.ensures in
    map_needed c.args.m.now c.args.contents.items _ _ c.in_ok-map_image-in-Ok.ensures judged
