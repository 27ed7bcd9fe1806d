use Rattle.std.proofs.Common.{refl}
use Rattle.link_symbols.proofs.laws.worked_example.Goals as goal

pub returns : goal.returns
returns c = record { sections = refl; symbols = refl }
