use Rattle.link_laws.proofs.Made.AppliedLemmas
use Rattle.link_laws.proofs.Made.PlacedLemmas
use Rattle.link_laws.proofs.laws.made_links.Goals as goal

pub returns-clause-placed : goal.returns-clause-placed
returns-clause-placed c = PlacedLemmas.made_is_placed

pub returns-clause-places : goal.returns-clause-places
returns-clause-places c = AppliedLemmas.made_has_places

pub returns-clause-applied : goal.returns-clause-applied
returns-clause-applied c = AppliedLemmas.made_is_applied
