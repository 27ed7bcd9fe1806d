use Rattle.std.proofs.Common.{◌∙◌, arith}
use Rattle.asm_expand.proofs.PlainLemmas.{inner_begins}
use Rattle.asm_expand.proofs.plain.inner_name.Goals as goal

pub returns : goal.returns
returns c = c.in_ok-name.ensures ∙ inner_begins c.args.text.now c.args.label.now c.requires (omega arith)
