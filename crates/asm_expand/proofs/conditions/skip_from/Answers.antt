use Rattle.std.proofs.Common.{arith}
use Rattle.asm_expand.proofs.SkipLemmas.{turned_fewer}
use Rattle.asm_expand.proofs.conditions.skip_from.Goals as goal

pub returns-in-Turned-clause-visits : goal.returns-in-Turned-clause-visits
returns-in-Turned-clause-visits c =
    let h = rw c.in-Turned.is at c.in-Ok.ensures in
    let f = turned_fewer _ _ _ _ _ _ h in
    omega (arith, f, c.pass-in-Turned.ensures.visits)
