use Rattle.sdt_outside.specs.Counts.{Rose}
use Rattle.tool_run.proofs.ReadLemmas.{inputs_ended, loads_refused, name_missing}
use Rattle.tool_run.proofs.image.read_loads.Goals as goal

pub returns-in-Err-clause-read : goal.returns-in-Err-clause-read
returns-in-Err-clause-read g c =
    let place = rw (c.as_slice-2.ensures.value, c.in-Ok.ensures, c.as_slice.ensures) at c.unnamed-place.ensures.place in
    let end = rw (c.front_of.ensures, c.as_slice-3.ensures.value, c.in-Ok.ensures, c.as_slice.ensures) at c.in-Err.ensures.end in
    rw c.input_end.ensures (inputs_ended c.in-Err.end (g.S.Store.files c.args.store.now) (Rose (g.S.Store.read_faults c.args.store.now) (g.S.Store.read_faults c.read_inputs.new.store)) c.args.m.now c.unnamed-place.result place end)

pub returns-in-Some-clause-read : goal.returns-in-Some-clause-read
returns-in-Some-clause-read g c =
    let place = rw (c.as_slice-2.ensures.value, c.in-Ok.ensures, c.as_slice.ensures) at c.unnamed-place.ensures.place in
    let found = rw (c.front_of.ensures, c.as_slice-3.ensures.value, c.in-Ok.ensures, c.as_slice.ensures) at c.in-Ok-read_inputs.ensures.found in
    let count = rw (c.front_of.ensures, c.as_slice-3.ensures.value, c.in-Ok.ensures, c.as_slice.ensures) at c.in-Ok-read_inputs.ensures.count in
    let name = rw (c.in-Ok.ensures, c.as_slice.ensures) at c.index.ensures in
    name_missing c.missing.result (g.S.Store.files c.args.store.now) (Rose (g.S.Store.read_faults c.args.store.now) (g.S.Store.read_faults c.read_inputs.new.store)) c.args.m.now c.unnamed-place.result c.in-Some.k c.index.result.now
    c.in-Ok-read_inputs.contents.items place c.in-Some.is name found count c.missing.ensures

pub returns-clause-read : goal.returns-clause-read
returns-clause-read g c =
    let place = rw (c.as_slice-2.ensures.value, c.in-Ok.ensures, c.as_slice.ensures) at c.unnamed-place.ensures.place in
    let found = rw (c.front_of.ensures, c.as_slice-3.ensures.value, c.in-Ok.ensures, c.as_slice.ensures) at c.in-Ok-read_inputs.ensures.found in
    let count = rw (c.front_of.ensures, c.as_slice-3.ensures.value, c.in-Ok.ensures, c.as_slice.ensures) at c.in-Ok-read_inputs.ensures.count in
    rw c.fault_end.ensures (loads_refused c.in-Err-loaded_image.fault (g.S.Store.files c.args.store.now) (Rose (g.S.Store.read_faults c.args.store.now) (g.S.Store.read_faults c.read_inputs.new.store)) c.args.m.now c.in-Ok-read_inputs.contents.items c.unnamed-place.result
    place c.in_default-place.is found count c.in-Err-loaded_image.ensures.exact)
