use Rattle.std.proofs.lemmas.Result.{err_from_is_err_and}
use Rattle.sdt_toolkit.proofs.InputLemmas.{named_judged, none_judged, unnamed_judged}
use Rattle.sdt_toolkit.proofs.inputs.named_input.Goals as goal

pub returns-in-Err-clause-value : goal.returns-in-Err-clause-value
returns-in-Err-clause-value g c = λ bytes agrees.
    unnamed_judged (g.S.Store.files c.args.store.now) (g.S.Store.read_faults c.args.store.now) (g.S.Store.read_faults c.content_input.new.store) c.args.sources c.args.name.now bytes
    c.in-Err.fault (c.in-Err.ensures.value bytes agrees)

pub returns-in_err-named-in-Ok-clause-value : goal.returns-in_err-named-in-Ok-clause-value
returns-in_err-named-in-Ok-clause-value g c = λ bytes agrees.
    let p = err_from_is_err_and c.from_residual.result c.from_residual.ensures.1 in
    rw (p.1, p.2) (none_judged _ _ _ _ _)

pub returns-in_ok-named-in-Ok-clause-value : goal.returns-in_ok-named-in-Ok-clause-value
returns-in_ok-named-in-Ok-clause-value g c = λ bytes agrees.
    rw c.in_ok-named-in-Ok.ensures
    (named_judged (g.S.Store.files c.args.store.now) (g.S.Store.read_faults c.args.store.now) (g.S.Store.read_faults c.content_input.new.store) c.args.sources c.args.name.now bytes
    c.in-Ok.value (c.in-Ok.ensures.value bytes agrees))
