use Rattle.expand_model.specs.Words.{as_name}
use Rattle.asm_expand.proofs.CalledLemmas.{no_macro}
use Rattle.asm_expand.proofs.first_lines.macro_called.Goals as goal

pub returns-then-is_empty : goal.returns-then-is_empty
returns-then-is_empty c = λ s r. no_macro c.args.state.now s (as_name c.args.word.now) r (c.is_empty.ensures.0 c.if-is_empty.true)
