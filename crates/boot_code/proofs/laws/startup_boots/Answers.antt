use Rattle.boot_code.proofs.BootPlaces
use Rattle.boot_code.proofs.laws.startup_boots.Goals as goal

pub returns : goal.returns
returns c = BootPlaces.startup_boots
