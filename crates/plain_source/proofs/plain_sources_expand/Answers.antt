use Rattle.plain_source.proofs.PlainLemmas as lemmas
use Rattle.plain_source.proofs.plain_sources_expand.Goals as goal

pub returns : goal.returns
returns c = lemmas.plain_sources_expand
