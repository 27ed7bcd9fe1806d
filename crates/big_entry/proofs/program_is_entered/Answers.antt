use Rattle.big_entry.proofs.EntryLemmas as lemmas
use Rattle.big_entry.proofs.program_is_entered.Goals as goal

pub returns : goal.returns
returns c = lemmas.program_is_entered c.step_is_valid.ensures
