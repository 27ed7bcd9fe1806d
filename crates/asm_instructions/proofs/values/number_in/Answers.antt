use Rattle.source_model.specs.Contexts.{number_in}
use Rattle.asm_instructions.proofs.AlikeLemmas.{number_alike}
use Rattle.asm_instructions.proofs.ContextLemmas.{all_shown}
use Rattle.asm_instructions.proofs.values.number_in.Goals as goal

pub returns : goal.returns
returns c =
    all_shown c.args.lookup.now (λ x. number_in x c.args.e.now) c.number_there.result (λ x same. number_alike _ x same c.args.e.now) c.number_there.ensures
