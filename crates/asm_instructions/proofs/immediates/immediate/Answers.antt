use Rattle.std.proofs.Common.{◌/◌, ◌%◌, sym}
use Rattle.asm_instructions.proofs.RotationLemmas.{least_rotation, no_rotation}
use Rattle.asm_instructions.proofs.immediates.immediate.Goals as goal

pub returns-in-None : goal.returns-in-None
returns-in-None c = let range = c.ranges.number.fits in sym (no_rotation c.args.number range c.in-None.ensures)

pub returns-in-Some : goal.returns-in-Some
returns-in-Some c =
    let range = c.ranges.number.fits in
    sym (least_rotation c.args.number (c.in-Some.operand / 256) (c.in-Some.operand % 256) range c.in-Some.ensures)
