use Rattle.std.proofs.Common.{refl}
use Rattle.asm_expand.proofs.AnswerLemmas.{back_one, outermost_end}
use Rattle.asm_expand.proofs.EngineLemmas.{led_close}
use Rattle.asm_expand.proofs.engine.close.Goals as goal

pub returns-in_default-clause-closes : goal.returns-in_default-clause-closes
returns-in_default-clause-closes c =
    λ sources start led.
    outermost_end sources start c.args.engine.now
    (record { state = c.args.engine.now.state; frames = c.innermost.new.frames; depth = c.args.engine.now.depth })
    c.args.end c.outermost.result c.in_default.ensures refl c.outermost.ensures.ends led

pub returns-clause-closes : goal.returns-clause-closes
returns-clause-closes c =
    λ sources start led.
    led_close sources start c.args.engine.now
    (record { state = c.turn.new.state; frames = c.innermost.new.frames; depth = c.shallower-engine.result })
    c.in-Some.frame c.args.end c.in_ok-next.next (back_one _ _ _ c.in-Some.ensures) c.shallower-engine.ensures c.in_ok-next.ensures.says led
