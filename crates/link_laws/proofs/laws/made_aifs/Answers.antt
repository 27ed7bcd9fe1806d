use Rattle.link_laws.proofs.Aif.Starts
use Rattle.link_laws.proofs.laws.made_aifs.Goals as goal

pub returns-clause-is_aif : goal.returns-clause-is_aif
returns-clause-is_aif c = Starts.made_is_aif

pub returns-clause-parts : goal.returns-clause-parts
returns-clause-parts c = Starts.made_has_parts

pub returns-clause-seen : goal.returns-clause-seen
returns-clause-seen c = Starts.made_is_seen

pub returns-clause-moved : goal.returns-clause-moved
returns-clause-moved c = Starts.moved_is_seen

pub returns-clause-fixed : goal.returns-clause-fixed
returns-clause-fixed c = Starts.made_fixed_boots

pub returns-clause-moving : goal.returns-clause-moving
returns-clause-moving c = Starts.made_moving_boots
