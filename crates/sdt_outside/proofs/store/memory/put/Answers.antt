use Rattle.sdt_outside.proofs.FileMaps.{one_written}
use Rattle.sdt_outside.proofs.store.memory.put.Goals as goal

pub returns-in-Ok-clause-ok : goal.returns-in-Ok-clause-ok
returns-in-Ok-clause-ok c =
    let e = one_written c.args.files.now.entries c.insert.new.self.entries _ _ c.in-Ok.ensures.updates.0 in
    cc (e, c.in_ok-name.ensures, c.in_ok-content.ensures)
