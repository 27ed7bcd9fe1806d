use Rattle.image_laws.proofs.FileLemmas
use Rattle.image_laws.proofs.PlainLemmas
use Rattle.image_laws.proofs.laws.view_law.Goals as goal

pub returns-clause-view : goal.returns-clause-view
returns-clause-view c = FileLemmas.view_law

pub returns-clause-plain : goal.returns-clause-plain
returns-clause-plain c = PlainLemmas.plain_law
