use Rattle.std.proofs.Common.{◌∙◌, ap, ◌%◌, ℕ, is_some}
use Rattle.arm7_transfers.proofs.StepLemmas.{stepped-as}
use Rattle.arm7_core.proofs.ThumbSteps.{absent_thumb, even_pc, finished_thumb}
use Rattle.arm7_core.proofs.thumb_step.step_half.Goals as goal

pub fetch-requires-clause-aligned : goal.fetch-requires-clause-aligned
fetch-requires-clause-aligned g c =
    ap (λ (a : ℕ). a % 2) c.register-at.ensures ∙ even_pc c.args.core.now c.requires.valid c.requires.thumb

pub returns-in_default-clause-step : goal.returns-in_default-clause-step
returns-in_default-clause-step g c =
    stepped-as c.args.core.now c.prefetch_abort.new.state _ _ _ c.prefetch_abort.result (c.fetch.ensures.same c.in_default.is)
    (absent_thumb c.args.core.now _ _ c.register-at.result (is_some c.fetch.result) c.prefetch_abort.result c.requires.valid c.requires.thumb c.requires.ready
    c.register-at.ensures c.fetch.ensures.there (ap is_some c.in_default.is) c.prefetch_abort.ensures.event c.prefetch_abort.ensures.registers)

pub returns-clause-step : goal.returns-clause-step
returns-clause-step g c =
    finished_thumb c.args.core.now c.advance.new.core c.execute-outcome.new.core _ _ _ _ c.register-at.result c.in-Some.word (is_some c.fetch.result) c.execute-outcome.result c.finish.result
    c.requires.valid c.requires.thumb c.requires.ready
    c.register-at.ensures c.fetch.ensures.there (ap is_some c.in-Some.is) c.in-Some.ensures.value c.fetch.ensures.after
    c.advance.ensures c.execute-outcome.ensures.executes c.finish.ensures.event c.finish.ensures.registers
