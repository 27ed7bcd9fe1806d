use Rattle.link_assign.proofs.ContentLemmas.{given_assigned}
use Rattle.link_assign.proofs.assigning.assign.Goals as goal

pub returns-clause-assigned : goal.returns-clause-assigned
returns-clause-assigned c = given_assigned c.args.kind.now c.args.linked.now.objects c.assign_objects.result c.assign_objects.ensures
