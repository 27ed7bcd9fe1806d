use Rattle.boot_code.proofs.BootPlaces
use Rattle.boot_code.proofs.laws.startup_is_exact.Goals as goal

pub returns : goal.returns
returns c = BootPlaces.startup_is_exact
