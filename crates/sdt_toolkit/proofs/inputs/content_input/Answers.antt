use Rattle.sdt_toolkit.proofs.ContentLemmas.{long_input, whole_input}
use Rattle.sdt_toolkit.proofs.inputs.content_input.Goals as goal

pub returns-in-Whole-clause-value : goal.returns-in-Whole-clause-value
returns-in-Whole-clause-value g c = λ bytes agrees.
    whole_input (g.S.Store.files c.args.store.now) (g.S.Store.read_faults c.args.store.now) (g.S.Store.read_faults c.input.new.store) c.args.sources c.args.name.now c.args.content.now
    c.in-Whole.bytes bytes c.input.result c.in-Whole.is agrees (rw c.as_slice.ensures at c.input.ensures.value)

pub returns-in-Long-clause-value : goal.returns-in-Long-clause-value
returns-in-Long-clause-value g c = λ bytes agrees.
    rw c.long_source.ensures (long_input (g.S.Store.files c.args.store.now) (g.S.Store.read_faults c.args.store.now) (g.S.Store.read_faults c.args.store.now) c.args.sources c.args.name.now c.args.content.now
    bytes c.in-Long.is agrees)
