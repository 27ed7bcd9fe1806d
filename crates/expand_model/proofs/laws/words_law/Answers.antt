use Rattle.expand_model.proofs.WordLemmas.{words_are_tokens}
use Rattle.expand_model.proofs.laws.words_law.Goals as goal

pub returns : goal.returns
returns c = words_are_tokens
