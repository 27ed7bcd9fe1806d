use Rattle.source_model.specs.ThumbForms.{thumb_pseudo}
use Rattle.asm_instructions.proofs.ContextLemmas.{all_shown}
use Rattle.asm_instructions.proofs.ThumbAlikeLemmas.{thumb_pseudo_alike}
use Rattle.asm_instructions.proofs.thumb_lines.thumb_pseudo_instruction.Goals as goal

pub returns : goal.returns
returns c =
    all_shown c.args.lookup.now (λ x. thumb_pseudo x c.args.word c.args.line.now) c.pseudo_there.result
    (λ x same. thumb_pseudo_alike _ x same c.args.word c.args.line.now) c.pseudo_there.ensures
