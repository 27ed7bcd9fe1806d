use Rattle.std.proofs.lemmas.Result.{IfOk-weaker}
use Rattle.asm_expand.proofs.first_lines.say_word.Goals as goal

pub returns-in-If-clause-says : goal.returns-in-If-clause-says
returns-in-If-clause-says c = IfOk-weaker c.say_if.result _ _ (λ n h sources s l ls a r. rw c.in-If.is (h sources s l ls a r)) c.say_if.ensures.says

pub returns-in-While-clause-says : goal.returns-in-While-clause-says
returns-in-While-clause-says c = IfOk-weaker c.say_while.result _ _ (λ n h sources s l ls a r. rw c.in-While.is (h sources s l ls a r)) c.say_while.ensures.says

pub returns-in-MEnd-clause-says : goal.returns-in-MEnd-clause-says
returns-in-MEnd-clause-says c = λ sources s l ls a r. rw c.in-MEnd.is (c.say_mend.ensures sources c.args.state.now s l ls a r)
