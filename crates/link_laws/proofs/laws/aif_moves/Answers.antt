use Rattle.link_laws.proofs.Shifts.Moved
use Rattle.link_laws.proofs.Shifts.Plans
use Rattle.link_laws.proofs.Shifts.Starts
use Rattle.link_laws.proofs.laws.aif_moves.Goals as goal

pub returns-clause-plans : goal.returns-clause-plans
returns-clause-plans c = Plans.plan_law

pub returns-clause-bytes : goal.returns-clause-bytes
returns-clause-bytes c = Moved.bytes_law

pub returns-clause-shows : goal.returns-clause-shows
returns-clause-shows c = Starts.moved_image_shows

pub returns-clause-boots : goal.returns-clause-boots
returns-clause-boots c = Starts.moved_image_boots
