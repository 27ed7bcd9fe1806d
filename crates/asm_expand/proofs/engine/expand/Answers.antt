use Rattle.asm_expand.proofs.AnswerLemmas.{of_files, split_reads, split_refused}
use Rattle.asm_expand.proofs.engine.expand.Goals as goal

pub returns-in-Err-clause-fault : goal.returns-in-Err-clause-fault
returns-in-Err-clause-fault g c =
    of_files (g.S.Store.files c.args.store.now) _ (λ sources. split_refused sources c.args.source.now c.args.text.now c.in-Err.fault c.in-Err.ensures)

pub returns-in-Err-clause-read : goal.returns-in-Err-clause-read
returns-in-Err-clause-read g c =
    of_files (g.S.Store.files c.args.store.now) _ (λ sources. split_reads c.args.source.now c.args.text.now c.in-Err.fault _ c.in-Err.ensures)
