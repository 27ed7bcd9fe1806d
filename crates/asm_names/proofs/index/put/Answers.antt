use Rattle.asm_names.proofs.IndexLemmas.{put_is}
use Rattle.asm_names.proofs.index.put.Goals as goal

pub returns : goal.returns
returns c = rw c.as_slice.ensures at (put_is c.args.index.now c.insert.new.self c.as_slice.result c.args.number c.in_ok-insert.ensures.updates)
