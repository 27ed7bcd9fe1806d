use Rattle.std.proofs.Common.{arith}
use Rattle.std.proofs.lemmas.Grind.{common_steps}
use Rattle.asm_lines.proofs.StringLemmas.{string_len-other}
use Rattle.asm_lines.proofs.forms.string_len.Goals as goal

pub bytes-preserved-then-rest-i-ne34 : goal.bytes-preserved-then-rest-i-ne34
bytes-preserved-then-rest-i-ne34 c = grind (arith, common_steps, string_len-other)
