use Rattle.std.proofs.Common.{sym, ◌∙◌}
use Rattle.sdt_toolkit.proofs.InputLemmas.{file_judged, source_judged}
use Rattle.sdt_toolkit.proofs.inputs.input.Goals as goal

pub returns-then-is_source-clause-value : goal.returns-then-is_source-clause-value
returns-then-is_source-clause-value g c =
    let is = sym c.is_source.ensures ∙ c.if-is_source.true in
    source_judged (g.S.Store.files c.args.store.now) (g.S.Store.read_faults c.args.store.now) (g.S.Store.read_faults c.source_input.new.store) c.args.sources c.args.name.now c.args.bytes.now
    c.source_input.result is c.source_input.ensures.value

pub returns-clause-value : goal.returns-clause-value
returns-clause-value g c =
    let is = sym c.is_source.ensures ∙ c.if-is_source.false in
    file_judged (g.S.Store.files c.args.store.now) (g.S.Store.read_faults c.args.store.now) (g.S.Store.read_faults c.args.store.now) c.args.sources c.args.name.now c.args.bytes.now
    c.read_linkable.result is c.read_linkable.ensures.value
