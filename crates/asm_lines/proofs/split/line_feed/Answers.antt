use Rattle.std.specs.Prelude.{◌==◌}
use Rattle.asm_lines.proofs.LineLemmas.{first_place}
use Rattle.asm_lines.proofs.split.line_feed.Goals as goal

pub returns : goal.returns
returns c = first_place (λ b. b == 10) c.args.text.now c.memchr.result c.memchr.ensures
