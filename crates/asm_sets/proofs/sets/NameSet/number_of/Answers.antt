use Rattle.std.proofs.Common.{◌∙◌}
use Rattle.asm_sets.proofs.SetLemmas.{numbered}
use Rattle.asm_sets.proofs.sets.NameSet.number_of.Goals as goal

pub returns-clause-number : goal.returns-clause-number
returns-clause-number c = rw (← c.self.view_is) (c.get_index_of.ensures.index ∙ numbered c.args.name.now c.self.inside.names.keys)
