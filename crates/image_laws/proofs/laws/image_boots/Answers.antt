use Rattle.image_laws.proofs.Placed
use Rattle.image_laws.proofs.laws.image_boots.Goals as goal

pub returns-clause-places : goal.returns-clause-places
returns-clause-places c = Placed.image_places

pub returns-clause-boots : goal.returns-clause-boots
returns-clause-boots c = Placed.image_boots
