use Rattle.std.proofs.Common.{refl}
use Rattle.run_opening.proofs.PageLemmas.{prepared, unprepared}
use Rattle.run_opening.proofs.filling.prepare.Goals as goal

pub returns-in_default-claim_all-clause-err : goal.returns-in_default-claim_all-clause-err
returns-in_default-claim_all-clause-err g c =
    (refl, refl, unprepared c.args.ranges.now c.args.needs.now _ _ _ _ c.requires.fresh c.requires.fits c.in-Ok.ensures.ok c.in-Ok-start_pages.ensures.ok c.in_default-claim_all.ensures.err)

pub returns-clause-ok : goal.returns-clause-ok
returns-clause-ok g c =
    prepared c.args.ranges.now c.args.needs.now _ _ _ _ _ c.requires.fresh c.requires.fits c.in-Ok.ensures.ok c.in-Ok-start_pages.ensures.ok c.in-Ok-start_pages.ensures.devices
    c.in-Ok-claim_all.ensures.ok c.in-Ok-claim_all.ensures.few
