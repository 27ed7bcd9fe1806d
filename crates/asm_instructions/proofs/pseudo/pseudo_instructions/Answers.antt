use Rattle.source_model.specs.PseudoForms.{pseudo_instructions}
use Rattle.asm_instructions.proofs.AlikeLemmas.{pseudo_alike}
use Rattle.asm_instructions.proofs.ContextLemmas.{all_shown}
use Rattle.asm_instructions.proofs.pseudo.pseudo_instructions.Goals as goal

pub returns : goal.returns
returns c =
    all_shown c.args.lookup.now (λ x. pseudo_instructions x c.args.word c.args.line.now) c.instructions_there.result
    (λ x same. pseudo_alike _ x same c.args.word c.args.line.now) c.instructions_there.ensures
