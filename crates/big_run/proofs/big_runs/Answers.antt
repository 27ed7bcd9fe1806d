use Rattle.big_run.proofs.RunLemmas as lemmas
use Rattle.big_run.proofs.big_runs.Goals as goal

pub returns : goal.returns
returns c = lemmas.big_runs
