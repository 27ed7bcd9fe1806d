use Rattle.arm_isa.proofs.ArmLemmas.{unread-register_shifted}
use Rattle.arm_isa.proofs.decode.register_shifted.Goals as goal

pub returns-then-not-fits_operation : goal.returns-then-not-fits_operation
returns-then-not-fits_operation c =
    unread-register_shifted c.args.w c.requires.group c.requires.by_register c.requires.no_multiply (λ e. let h = (c.if-is_miscellaneous.ensures).1 e in cc) (λ f. let h = (c.if-not-fits_operation.ensures).1 f in cc)
