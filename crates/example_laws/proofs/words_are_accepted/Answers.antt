use Rattle.example_laws.proofs.AcceptLemmas as accepting
use Rattle.example_laws.proofs.FaultLemmas as faults
use Rattle.example_laws.proofs.words_are_accepted.Goals as goal

pub returns-clause-expand : goal.returns-clause-expand
returns-clause-expand c = accepting.words_expand c.plain_sources_expand.ensures

pub returns-clause-read : goal.returns-clause-read
returns-clause-read c = accepting.words_are_read c.one_reading.ensures.line

pub returns-clause-faultless : goal.returns-clause-faultless
returns-clause-faultless c = faults.words_have_no_fault c.words_have_no_fault.ensures c.calm_have_no_fault.ensures

pub returns-clause-accepted : goal.returns-clause-accepted
returns-clause-accepted c =
    accepting.words_are_accepted c.expansion_law.ensures c.plain_sources_expand.ensures c.one_reading.ensures.line
    (faults.words_have_no_fault c.words_have_no_fault.ensures c.calm_have_no_fault.ensures)
