use Rattle.tool_run.proofs.RunLemmas.{unloaded, unread}
use Rattle.tool_run.proofs.opening.open_image.Goals as goal

pub returns-in-Err-clause-unopened : goal.returns-in-Err-clause-unopened
returns-in-Err-clause-unopened g c = unread c.in-Err.end c.args.words.now _ _ _ _ _ c.in-Err.ensures.read

pub returns-in-Err-open_banks-clause-unopened : goal.returns-in-Err-open_banks-clause-unopened
returns-in-Err-open_banks-clause-unopened g c =
    let closed = rw c.replace-lent.ensures.value at c.in-Err-open_banks.ensures.closed in
    rw c.fault_end.ensures (unloaded c.in-Err-open_banks.closed.fault c.args.words.now _ _ _ _ _ c.in-Ok.image c.in-Ok.ensures.read closed)
