use Rattle.std.proofs.Common.{arith}
use Rattle.sdt_outside.specs.Counts.{Rose}
use Rattle.tool_run.proofs.ReadLemmas.{map_read, map_refused}
use Rattle.tool_run.proofs.image.read_mapped.Goals as goal

pub returns-in-Ok-map_named-clause-read : goal.returns-in-Ok-map_named-clause-read
returns-in-Ok-map_named-clause-read g c =
    let reads = rw c.as_slice.ensures at c.in-Ok-map_named.ensures.found in
    let is = rw c.as_slice.ensures at c.in-Ok-map_named.ensures.exact in
    let h = rw c.read_input.ensures.files at c.read_loads.ensures.read in
    map_read c.read_loads.result (g.S.Store.files c.args.store.now) (Rose (g.S.Store.read_faults c.args.store.now) (g.S.Store.read_faults c.read_loads.new.store)) (Rose (g.S.Store.read_faults c.read_input.new.store) (g.S.Store.read_faults c.read_loads.new.store))
    c.args.file.now c.in-Ok.text c.in-Ok-map_named.m (λ rose. omega (arith, c.read_input.ensures.read_faults, rose)) c.in-Ok.ensures.found reads is h

pub returns-clause-read : goal.returns-clause-read
returns-clause-read g c =
    let gives = rw c.as_slice.ensures at c.in-Err-map_named.ensures.exact in
    rw c.fault_end.ensures (map_refused c.in-Err-map_named.fault (g.S.Store.files c.args.store.now) (Rose (g.S.Store.read_faults c.args.store.now) (g.S.Store.read_faults c.read_input.new.store)) c.args.file.now c.in-Ok.text c.in-Ok.ensures.found gives)
