use Rattle.arm7_bus.proofs.block.each_fits.Goals as goal

pub returns : goal.returns
returns c = λ k. (c.type_inv.bytes k).fits
