use Rattle.std.proofs.lemmas.Result.{err_from_is_err_and}
use Rattle.sdt_toolkit.proofs.InputLemmas.{assembled_as, unassembled_as}
use Rattle.sdt_toolkit.specs.Reads.{Told}
use Rattle.sdt_toolkit.proofs.inputs.source_input.Goals as goal

pub returns-in_err-object-clause-value : goal.returns-in_err-object-clause-value
unfolding Told
returns-in_err-object-clause-value g c = λ s among.
    let p = err_from_is_err_and c.from_residual.result c.from_residual.ensures.1 in
    let files = g.S.Store.files c.args.store.now in
    let before = g.S.Store.read_faults c.args.store.now in
    let now = g.S.Store.read_faults c.assemble.new.store in
    rw (p.1, p.2) (unassembled_as files before now s among c.args.name.now c.args.bytes.now c.in_err-object.field-0.0 c.in_err-object.ensures.assembled c.in_err-object.ensures.cause)

pub returns-clause-value : goal.returns-clause-value
unfolding Told
returns-clause-value g c = λ s among.
    let files = g.S.Store.files c.args.store.now in
    let before = g.S.Store.read_faults c.args.store.now in
    let now = g.S.Store.read_faults c.assemble.new.store in
    assembled_as files before now s among c.args.name.now c.args.bytes.now c.in_ok-object.object c.in_ok-object.ensures.assembled
    (record { stands = c.in_ok-object.ensures.stands; valid = c.in_ok-object.ensures.valid; fits = c.object_fits.ensures })
