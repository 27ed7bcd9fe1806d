use Rattle.tool_words.proofs.LawLemmas.{place_law, fine_law, within_law}
use Rattle.tool_words.proofs.laws.words_law.Goals as goal

pub returns-clause-place : goal.returns-clause-place
returns-clause-place c = place_law

pub returns-clause-fine : goal.returns-clause-fine
returns-clause-fine c = fine_law

pub returns-clause-within : goal.returns-clause-within
returns-clause-within c = within_law
