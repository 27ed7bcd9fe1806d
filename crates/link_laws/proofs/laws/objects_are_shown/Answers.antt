use Rattle.link_laws.proofs.Plans.Seen
use Rattle.link_laws.proofs.ShownLemmas
use Rattle.link_laws.proofs.SizedLemmas
use Rattle.link_laws.proofs.laws.objects_are_shown.Goals as goal

pub returns-clause-sizes : goal.returns-clause-sizes
returns-clause-sizes c = SizedLemmas.applied_are_sized

pub returns-clause-objects : goal.returns-clause-objects
returns-clause-objects c = ShownLemmas.objects_are_shown

pub returns-clause-statements : goal.returns-clause-statements
returns-clause-statements c = ShownLemmas.statements_stand

pub returns-clause-views : goal.returns-clause-views
returns-clause-views c = Seen.views_are_seen
