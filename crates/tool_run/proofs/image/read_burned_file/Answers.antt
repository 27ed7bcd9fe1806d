use Rattle.sdt_outside.specs.Counts.{Rose}
use Rattle.tool_run.proofs.ReadLemmas.{burned_refused}
use Rattle.tool_run.proofs.image.read_burned_file.Goals as goal

pub returns-clause-read : goal.returns-clause-read
returns-clause-read g c =
    rw c.fault_end.ensures (burned_refused c.in-Err-burned_image.fault (g.S.Store.files c.args.store.now) (Rose (g.S.Store.read_faults c.args.store.now) (g.S.Store.read_faults c.read_input.new.store))
    c.args.file.now c.in-Ok.text c.in-Ok.ensures.found (rw c.as_slice.ensures at c.in-Err-burned_image.ensures.exact))
