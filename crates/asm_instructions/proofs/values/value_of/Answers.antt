use Rattle.source_model.specs.Contexts.{value_of}
use Rattle.asm_instructions.proofs.ContextLemmas.{all_shown}
use Rattle.asm_instructions.proofs.values.value_of.Goals as goal

pub returns : goal.returns
returns c =
    all_shown c.args.lookup.now (λ x. value_of x c.args.e.now) c.value_there.result (λ x same. same.value c.args.e.now) c.value_there.ensures
