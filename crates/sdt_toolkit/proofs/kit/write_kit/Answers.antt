use Rattle.sdt_outside.specs.Counts.{Rose}
use Rattle.sdt_toolkit.specs.Kits.{kit_file}
use Rattle.sdt_toolkit.proofs.KitLemmas.{unwritten}
use Rattle.sdt_toolkit.proofs.kit.write_kit.Goals as goal

pub returns-in-Err-clause-says : goal.returns-in-Err-clause-says
returns-in-Err-clause-says g c =
    rw c.fault_answer.ensures (unwritten c.in-Err.fault c.args.output (kit_file c.args.acknowledge) (g.S.Store.files c.args.store.now)
    (Rose (g.S.Store.write_faults c.args.store.now) (g.S.Store.write_faults c.args.store.now)) c.in-Err.ensures.exact)
