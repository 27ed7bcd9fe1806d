use Rattle.sdt_outside.specs.Counts.{Rose}
use Rattle.tool_run.proofs.ReadLemmas.{aif_refused}
use Rattle.tool_run.proofs.image.read_aif_file.Goals as goal

pub returns-in-Err-aif_at-clause-read : goal.returns-in-Err-aif_at-clause-read
returns-in-Err-aif_at-clause-read g c =
    rw c.fault_end.ensures (aif_refused c.in-Err-aif_at.fault (g.S.Store.files c.args.store.now) (Rose (g.S.Store.read_faults c.args.store.now) (g.S.Store.read_faults c.read_input.new.store))
    c.args.file.now c.in-Ok.bytes c.args.at c.in-Ok.ensures.found c.in-Err-aif_at.ensures.exact)
