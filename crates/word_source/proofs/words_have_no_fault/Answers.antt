use Rattle.word_source.proofs.WordLemmas as lemmas
use Rattle.word_source.proofs.words_have_no_fault.Goals as goal

pub returns : goal.returns
returns c = lemmas.words_have_no_fault
