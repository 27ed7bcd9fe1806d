use Rattle.std.proofs.Common.{sym, ◌∙◌}
use Rattle.asm_laying.proofs.AreaLemmas.{goes_back}
use Rattle.asm_laying.proofs.areas.Areas.enter_named.Goals as goal

pub returns-in-Some : goal.returns-in-Some
returns-in-Some c = goes_back c.args.self.now c.args.name.now c.in-Some.number (sym c.number_of.ensures ∙ c.in-Some.is)
