use Rattle.arm_isa.proofs.ArmLemmas.{unread-transfer_half}
use Rattle.arm_isa.proofs.decode.transfer_half.Goals as goal

pub returns-then-not-fits_half : goal.returns-then-not-fits_half
returns-then-not-fits_half c =
    unread-transfer_half c.args.w c.requires.group c.requires.by_register c.requires.marked c.requires.no_multiply (λ f. let h = (c.if-not-fits_half.ensures).1 f in cc)
