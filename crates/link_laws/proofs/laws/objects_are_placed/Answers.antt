use Rattle.link_laws.proofs.PlacedLemmas
use Rattle.link_laws.proofs.ShownLemmas
use Rattle.link_laws.proofs.laws.objects_are_placed.Goals as goal

pub returns-clause-placed : goal.returns-clause-placed
returns-clause-placed c = PlacedLemmas.objects_are_placed

pub returns-clause-ranges : goal.returns-clause-ranges
returns-clause-ranges c = ShownLemmas.ranges_exist
