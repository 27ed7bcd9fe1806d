use Rattle.std.proofs.Common.{arith}
use Rattle.asm_units.proofs.ByteLemmas.{fits_wide}
use Rattle.asm_units.proofs.bytes.fits.Goals as goal

pub returns-in_default : goal.returns-in_default
returns-in_default c = fits_wide c.args.width c.args.number (grind arith) c.ranges.number.fits
