use Rattle.link_model.proofs.NeedLemmas.{veneers_law}
use Rattle.link_model.proofs.WayLemmas.{ways_law}
use Rattle.link_model.proofs.laws.veneers_law.Goals as goal

pub returns : goal.returns
returns c = record { needed = veneers_law; ways = ways_law }
