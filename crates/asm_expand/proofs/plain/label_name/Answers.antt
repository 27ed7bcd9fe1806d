use Rattle.std.proofs.Common.{sym, ◌∙◌}
use Rattle.asm_expand.proofs.PlainLemmas.{whole_name}
use Rattle.asm_expand.proofs.plain.label_name.Goals as goal

pub returns-then-is_name : goal.returns-then-is_name
returns-then-is_name c =
    whole_name c.args.text.now c.args.label.now c.in_ok-name.name c.requires c.in_ok-name.ensures (sym c.is_name.ensures ∙ c.if-is_name.true)
