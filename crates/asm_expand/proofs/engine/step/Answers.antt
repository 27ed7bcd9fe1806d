use Rattle.asm_expand.proofs.AnswerLemmas.{back_one, end_caused, end_reads, led_bad, led_on, refusal_caused, refusal_reads}
use Rattle.asm_expand.proofs.EngineLemmas.{led_open, led_read}
use Rattle.asm_expand.proofs.engine.step.Goals as goal

pub returns-in_ok-next-in-Go-clause-led : goal.returns-in_ok-next-in-Go-clause-led
returns-in_ok-next-in-Go-clause-led g c =
    led_on _ _ _ _ _
    (λ sources start led.
    led_read sources start c.args.engine.now c.read.new.state c.in-Go.place c.in_ok-next-in-Go.next c.in_ok-next-in-Go.ensures.says (rw c.in-Go.is at led))

pub returns-in-Ok-clause-led : goal.returns-in-Ok-clause-led
returns-in-Ok-clause-led g c =
    led_on _ _ _ _ _
    (λ sources start led.
    led_open sources start c.args.engine.now c.open.new.engine c.in-Under.frame c.in-Under.place c.in-Ok.ensures.opens
    (back_one _ _ _ c.in-Ok.ensures.opens.1) (rw c.in-Under.is at led))

pub returns-in-Bad-clause-led : goal.returns-in-Bad-clause-led
returns-in-Bad-clause-led g c =
    led_on _ _ _ _ _
    (λ sources start led.
    led_bad sources start c.args.engine.now c.in-Bad.place c.in-Bad.kind c.bad_at-fault.result c.bad_at-fault.ensures.at (rw c.in-Bad.is at led))

pub returns-in-Bad-clause-cause : goal.returns-in-Bad-clause-cause
returns-in-Bad-clause-cause g c = refusal_caused c.bad_at-fault.result _ _ c.bad_at-fault.ensures.refusal

pub returns-in-Stop-clause-led : goal.returns-in-Stop-clause-led
returns-in-Stop-clause-led g c = led_on _ _ _ _ _ (λ sources start led. c.close.ensures.closes sources start (rw c.in-Stop.is at led))

pub returns-in-Stop-clause-cause : goal.returns-in-Stop-clause-cause
returns-in-Stop-clause-cause g c = end_caused c.close.result _ _ c.close.ensures.refused

pub returns-in-Bad-clause-read : goal.returns-in-Bad-clause-read
returns-in-Bad-clause-read g c = refusal_reads c.bad_at-fault.result _ c.bad_at-fault.ensures.refusal

pub returns-in-Stop-clause-read : goal.returns-in-Stop-clause-read
returns-in-Stop-clause-read g c = end_reads c.close.result _ c.close.ensures.refused
