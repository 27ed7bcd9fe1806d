use Rattle.armlink_core.proofs.NameLaws.{nameless_images, nameless_scatters}
use Rattle.armlink_core.proofs.laws.image_names.Goals as goal

pub returns-clause-linked : goal.returns-clause-linked
returns-clause-linked c = nameless_images

pub returns-clause-scattered : goal.returns-clause-scattered
returns-clause-scattered c = nameless_scatters
