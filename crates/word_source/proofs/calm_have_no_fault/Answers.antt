use Rattle.word_source.proofs.CalmLemmas as lemmas
use Rattle.word_source.proofs.calm_have_no_fault.Goals as goal

pub returns : goal.returns
returns c = lemmas.calm_have_no_fault
