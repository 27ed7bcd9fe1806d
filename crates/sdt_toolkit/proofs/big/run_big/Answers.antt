use Rattle.std.proofs.Common.{refl}
use Rattle.sdt_toolkit.proofs.BigAnswer.{closed_answer, reported}
use Rattle.sdt_toolkit.proofs.big.run_big.Goals as goal

pub returns-in-Err : goal.returns-in-Err
returns-in-Err g c =
    rw c.fault_answer.ensures (closed_answer c.big_law.ensures.fits c.args.output c.args.count c.requires.some c.requires.few c.requires.valid c.requires.bytes _ _ _ c.in-Err.closed.fault
    refl refl c.in-Err.ensures.devices (rw c.requires.image at c.in-Err.ensures.closed))

pub returns : goal.returns
returns g c =
    reported c.big_law.ensures.runs c.args.output c.args.count c.requires.some c.requires.few c.requires.valid c.requires.bytes c.requires.built _ _ _ _ _ _ _ _ _
    (rw c.requires.image at c.in-Ok.ensures.roomy) (rw c.requires.image at c.in-Ok.ensures.opened) c.in-Ok.ensures.ready
    (rw (c.in-Done.is, c.as_slice.ensures, c.requires.source) at c.write.ensures.says) (rw c.requires.image at c.run_on-ended.ensures) c.requires.words c.report.ensures.says
