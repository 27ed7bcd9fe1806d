use Rattle.stand_laws.proofs.PlacedLemmas.{object_stands}
use Rattle.stand_laws.proofs.laws.objects_stand.Goals as goal

pub returns : goal.returns
returns c = object_stands
