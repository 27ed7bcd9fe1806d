use Rattle.link_place.proofs.CheckLemmas.{low_copies}
use Rattle.link_place.proofs.faults.conflicting.Goals as goal

pub first_meeting-requires : goal.first_meeting-requires
first_meeting-requires c = rw (c.as_slice.ensures.value, c.in_ok-copy_moves.ensures) (low_copies c.args.regions.now c.requires)
