use Rattle.std.proofs.Common.{arith}
use Rattle.sdt_outside.specs.Counts.{Rose}
use Rattle.sdt_toolkit.proofs.ContentLemmas.{input_unread, text_unread}
use Rattle.sdt_toolkit.proofs.contents.read_files.Goals as goal

pub returns-in-Err-clause-end : goal.returns-in-Err-clause-end
returns-in-Err-clause-end g c =
    let rose = Rose (g.S.Store.read_faults c.args.store.now) (g.S.Store.read_faults c.read_inputs.new.store) in
    let end = rw (c.as_slice.ensures.value, c.in_ok-scatter.ensures) at c.in-Err.ensures.end in
    text_unread c.in-Err.end (g.S.Store.files c.args.store.now) c.args.placement.now c.args.names.now rose rose (λ x. x) end

pub returns-clause-end : goal.returns-clause-end
returns-clause-end g c =
    let count = g.S.Store.read_faults in
    let texts = rw (c.as_slice.ensures.value, c.in_ok-scatter.ensures) at c.in-Ok.ensures.found in
    let end = rw c.read_inputs.ensures.files at c.in-Err-read_contents.ensures.end in
    let later : Rose (count c.read_inputs.new.store) (count c.read_contents.new.store) → Rose (count c.args.store.now) (count c.read_contents.new.store) = λ rose. omega (arith, rose, c.read_inputs.ensures.read_faults) in
    input_unread c.in-Err-read_contents.end (g.S.Store.files c.args.store.now) c.args.placement.now c.args.names.now c.in-Ok.texts.items
    (Rose (count c.read_inputs.new.store) (count c.read_contents.new.store)) (Rose (count c.args.store.now) (count c.read_contents.new.store)) later texts end
