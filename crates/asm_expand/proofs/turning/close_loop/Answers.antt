use Rattle.std.proofs.lemmas.Result.{IfOk-weaker}
use Rattle.asm_expand.proofs.turning.close_loop.Goals as goal

pub returns-in-WEnd-clause-says : goal.returns-in-WEnd-clause-says
returns-in-WEnd-clause-says c =
    IfOk-weaker c.again.result _ _ (λ n h sources l m ls rest s a b r. rw c.in-WEnd.is (h sources l m ls rest s a b r)) c.again.ensures.says
