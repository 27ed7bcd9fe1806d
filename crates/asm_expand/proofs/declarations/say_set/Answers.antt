use Rattle.std.proofs.Common.{◌≡◌, ℕ, List, ◌++◌, sym, ap, subst, ◌∙◌, Option, Some}
use Rattle.expand_model.specs.Known.{long_kinds, value_of}
use Rattle.expand_model.specs.States.{variable, with_variable}
use Rattle.expand_model.specs.Steps.{Go, of_type, sets, target_kinds}
use Rattle.expand_model.specs.Steps as model
use Rattle.expand_model.specs.Words.{as_name}
use Rattle.asm_expand.specs.declared.steps.Next.TheVariants as next
use Rattle.asm_expand.specs.Saying.{Shows}
use Rattle.asm_expand.proofs.SayingLemmas.{shows_bad, valued_bad}
use Rattle.asm_expand.proofs.declarations.say_set.Goals as goal

pub returns-in-Err-clause-says : goal.returns-in-Err-clause-says
returns-in-Err-clause-says c =
    λ sources s l ls h r.
    let named : as_name c.args.words.label.now ≡ Some c.in-Ok.name = c.in-Some.ensures ∙ ap (λ (x : List ℕ). Some x) (sym c.in-Ok.ensures) in
    let same = c.of_type-typed.ensures ∙ ap (of_type c.args.sort) (c.in-Ok-value_of.ensures s r) in
    let e =
    valued_bad l (target_kinds c.args.sort (variable s c.in-Ok.name) ++ long_kinds c.args.operand.now)
    (of_type c.args.sort (value_of s c.args.operand.now))
    (λ v. Go (with_variable c.in-Ok.name v s) ls) c.set_fault-told.result c.of_type-typed.result c.in-Err.kind (c.set_fault-told.ensures s r) same
    c.in-Err.ensures in
    subst (λ (o : Option (List ℕ)). Shows sources c.args.state.now (next.Bad c.args.at c.in-Err.kind)
    (sets l c.args.sort s ls o (long_kinds c.args.operand.now) (value_of s c.args.operand.now))) (sym named)
    (subst (λ (m : model.Next). Shows sources c.args.state.now (next.Bad c.args.at c.in-Err.kind) m) (sym e)
    (shows_bad sources c.args.state.now c.args.at c.in-Err.kind l ls h))
