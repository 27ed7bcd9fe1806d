use Rattle.std.proofs.Common.{sym, arith}
use Rattle.std.proofs.lemmas.Grind.{common_steps}
use Rattle.armsd_core.proofs.LineLemmas.{words_last, words_first}
use Rattle.armsd_core.proofs.line.cut.Goals as goal

pub returns-in-None : goal.returns-in-None
returns-in-None c = words_last c.args.line.now (sym c.in-None.ensures)

pub returns-in-Some : goal.returns-in-Some
returns-in-Some c = let e = words_first c.args.line.now c.in-Some.at (sym c.in-Some.ensures) in grind (arith, common_steps, e)
