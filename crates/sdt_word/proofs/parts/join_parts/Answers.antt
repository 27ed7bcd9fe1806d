use Rattle.std.proofs.Common.{arith}
use Rattle.sdt_word.proofs.PartsLemmas.{joined-end, joined-step}
use Rattle.sdt_word.proofs.parts.join_parts.Goals as goal

pub overflow_add-word : goal.overflow_add-word
overflow_add-word c =
    let step = joined-step c.args.parts.now c.loop-part.word c.loop-part.part-index (0, 0) c.loop-part-test.true c.loop-part.invariant c.from.result c.from-in-loop-part.result c.from.ensures c.if-from-width-ne0.false c.from-in-loop-part.ensures in
    omega (arith, step.0)

pub loop-part-preserved : goal.loop-part-preserved
loop-part-preserved c =
    (joined-step c.args.parts.now c.loop-part.word c.loop-part.part-index (0, 0) c.loop-part-test.true c.loop-part.invariant c.from.result c.from-in-loop-part.result c.from.ensures c.if-from-width-ne0.false c.from-in-loop-part.ensures).1

pub returns-clause-below : goal.returns-clause-below
returns-clause-below c =
    joined-end c.args.parts.now c.loop-part.word c.loop-part.part-index c.loop-part-test.false c.loop-part.invariant
