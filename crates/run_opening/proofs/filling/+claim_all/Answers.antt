use Rattle.std.proofs.Common.{rules, get_or}
use Rattle.run_opening.proofs.PageLemmas.{rest_fits, still_started, still_room, too_many}
use Rattle.run_opening.proofs.filling.+claim_all.Goals as goal
use Rattle.base_lemmas.proofs.BaseLemmas.{on_err}

pub returns-in_err-claim-clause-err : goal.returns-in_err-claim-clause-err
returns-in_err-claim-clause-err g t c =
    on_err c.from_residual.result _ (too_many _ c.args.bus.now.memory.pages.room c.args.needs.now (record { base = 0; size = 0 }) c.in-len1-up.len_at_least c.requires.started c.requires.fits c.in_err-claim.ensures.err)

pub claim_all-requires : goal.claim_all-requires
claim_all-requires g t c =
    let first = get_or c.args.needs.now 0 (record { base = 0; size = 0 }) in (
      search rules,
      (
        still_started _ _ first.base first.size c.in_ok-claim.ensures.ok c.requires.started,
        (rest_fits c.args.needs.now c.in-len1-up.len_at_least c.requires.fits, still_room _ _ first.base first.size c.in_ok-claim.ensures.ok c.in_ok-claim.ensures.few),
      ),
    )
