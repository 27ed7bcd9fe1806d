use Rattle.armlink_core.proofs.SizeLaws.{linked_sizes, scatter_sizes}
use Rattle.armlink_core.proofs.laws.image_sizes.Goals as goal

pub returns-clause-linked : goal.returns-clause-linked
returns-clause-linked c = linked_sizes

pub returns-clause-scattered : goal.returns-clause-scattered
returns-clause-scattered c = scatter_sizes
