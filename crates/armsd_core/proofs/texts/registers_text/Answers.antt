use Rattle.std.specs.Prelude.{codes}
use Rattle.armsd_core.specs.Texts.{registers_text}
use Rattle.armsd_core.proofs.TextLemmas.{line_behind}
use Rattle.armsd_core.proofs.texts.registers_text.Goals as goal

pub returns : goal.returns
unfolding registers_text
returns c = line_behind _ (codes "cpsr") _ _ _ _ c.numbered-out.ensures.text c.push_text.ensures c.push_value.ensures.text
