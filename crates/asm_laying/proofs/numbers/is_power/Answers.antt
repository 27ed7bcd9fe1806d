use Rattle.asm_model.specs.Extents.{is_power}
use Rattle.asm_laying.proofs.numbers.is_power.Goals as goal

pub returns : goal.returns
unfolding is_power
returns c = c.is_among.ensures
