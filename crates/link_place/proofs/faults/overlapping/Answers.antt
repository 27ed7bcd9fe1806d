use Rattle.link_place.proofs.CheckLemmas.{low_loads, low_regions}
use Rattle.link_place.proofs.faults.overlapping.Goals as goal

pub first_meeting-requires : goal.first_meeting-requires
first_meeting-requires c = rw (c.as_slice.ensures.value, c.in_ok-load_moves.ensures) (low_loads c.args.loads.now c.requires.loads)

pub first_meeting-requires-2 : goal.first_meeting-requires-2
first_meeting-requires-2 c = rw (c.as_slice-2.ensures.value, c.in_ok-execution_moves.ensures) (low_regions c.args.regions.now c.requires.regions)
