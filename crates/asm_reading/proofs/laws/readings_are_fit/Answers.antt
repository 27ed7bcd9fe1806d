use Rattle.asm_reading.proofs.FitLemmas.{readings_are_fit}
use Rattle.asm_reading.proofs.laws.readings_are_fit.Goals as goal

pub returns : goal.returns
returns c = readings_are_fit
