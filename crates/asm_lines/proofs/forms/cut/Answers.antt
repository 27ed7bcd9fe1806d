use Rattle.std.proofs.Common.{arith, sym, ◌==◌}
use Rattle.std.proofs.lemmas.Grind.{common_steps}
use Rattle.asm_lines.proofs.LineLemmas.{split_last, split_first}
use Rattle.asm_lines.proofs.forms.cut.Goals as goal

pub returns-in-None : goal.returns-in-None
returns-in-None c = split_last (λ b. b == 32) c.args.text.now (sym c.in-None.ensures)

pub returns-in-Some : goal.returns-in-Some
returns-in-Some c = let e = split_first (λ b. b == 32) c.args.text.now c.in-Some.end (sym c.in-Some.ensures) in grind (arith, common_steps, e)
