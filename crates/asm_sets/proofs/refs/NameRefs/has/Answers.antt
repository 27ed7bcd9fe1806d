use Rattle.std.proofs.Common.{◌∙◌}
use Rattle.asm_sets.proofs.SetLemmas.{among_shown}
use Rattle.asm_sets.proofs.refs.NameRefs.has.Goals as goal

pub returns : goal.returns
returns c = rw (← c.self.view_is, ← c.as_slice.ensures) (c.contains.ensures ∙ among_shown c.as_slice.result.now c.self.inside.names.keys)
