use Rattle.std.proofs.lemmas.Result.{err_from_is_err_and}
use Rattle.tool_library.proofs.SizeLemmas.{object_short}
use Rattle.sdt_toolkit.proofs.AskLemmas.{spells_none, spells_object}
use Rattle.sdt_toolkit.specs.Reads.{Told}
use Rattle.sdt_toolkit.proofs.assemble.object_file.Goals as goal

pub returns-in_err-object-clause-spells : goal.returns-in_err-object-clause-spells
unfolding Told
returns-in_err-object-clause-spells g c = λ s among.
    let p = err_from_is_err_and c.from_residual.result c.from_residual.ensures.1 in
    let files = g.S.Store.files c.args.store.now in
    let before = g.S.Store.read_faults c.args.store.now in
    let now = g.S.Store.read_faults c.assemble.new.store in
    rw (p.1, p.2) (spells_none files before now s among c.args.source.now c.args.text.now c.in_err-object.field-0.0 c.in_err-object.ensures.assembled c.in_err-object.ensures.cause)

pub returns-clause-spells : goal.returns-clause-spells
unfolding Told
returns-clause-spells g c = λ s among.
    let files = g.S.Store.files c.args.store.now in
    let before = g.S.Store.read_faults c.args.store.now in
    let now = g.S.Store.read_faults c.assemble.new.store in
    spells_object files before now s among c.args.source.now c.args.text.now c.in_ok-object.object c.write_object-bytes.result c.in_ok-object.ensures.assembled
    (record { stands = c.in_ok-object.ensures.stands; valid = c.in_ok-object.ensures.valid; fits = c.object_fits.ensures }) c.write_object-bytes.ensures

pub returns-clause-short : goal.returns-clause-short
returns-clause-short g c = object_short c.size_law.ensures c.in_ok-object.object c.write_object-bytes.result c.write_object-bytes.ensures
