use Rattle.std.specs.Prelude.{Ok, Err}
use Rattle.asm_expand.proofs.AnswerLemmas.{get_led}
use Rattle.asm_expand.proofs.engine.get_on.Goals as goal

pub returns-in-Ok-clause-led : goal.returns-in-Ok-clause-led
returns-in-Ok-clause-led g c = get_led (g.S.Store.files c.args.store.now) c.args.engine.now c.args.name c.args.behind (Ok c.in-Ok.after) c.in-Ok.ensures.gets

pub returns-in-Err-clause-led : goal.returns-in-Err-clause-led
returns-in-Err-clause-led g c =
    get_led (g.S.Store.files c.args.store.now) c.args.engine.now c.args.name c.args.behind (Err c.in-Err.fault) c.in-Err.ensures.gets
