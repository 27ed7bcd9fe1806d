use Rattle.std.proofs.Common.{◌++◌, sym, ap, subst, ◌∙◌}
use Rattle.expand_model.specs.Known.{long_kinds, value_of}
use Rattle.expand_model.specs.Steps.{label_kinds, depth_kinds, truth, loop}
use Rattle.expand_model.specs.Steps as model
use Rattle.asm_expand.specs.declared.steps.Next.TheVariants as next
use Rattle.asm_expand.specs.Saying.{Shows, depth_of}
use Rattle.asm_variables.specs.Steps.{words_shown}
use Rattle.asm_expand.proofs.SayingLemmas.{shows_bad, valued_bad}
use Rattle.asm_expand.proofs.conditions.say_while.Goals as goal

pub returns-in-Err-clause-says : goal.returns-in-Err-clause-says
returns-in-Err-clause-says c =
    λ sources s l ls h r.
    let same = c.truth_of-truth.ensures ∙ ap truth (c.in-Ok.ensures s r) in
    let e =
    valued_bad l (label_kinds (words_shown c.args.words) ++ depth_kinds (depth_of c.args.depth) ++ long_kinds c.args.operand.now)
    (truth (value_of s c.args.operand.now)) (loop l s ls)
    c.opening_fault-told.result c.truth_of-truth.result c.in-Err.kind c.opening_fault-told.ensures same c.in-Err.ensures in
    subst (λ (m : model.Next). Shows sources c.args.state.now (next.Bad c.args.at c.in-Err.kind) m) (sym e)
    (shows_bad sources c.args.state.now c.args.at c.in-Err.kind l ls h)
