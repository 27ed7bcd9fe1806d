use Rattle.std.proofs.Common.{◌∙◌, sym}
use Rattle.aof_object.proofs.IndexLemmas.{noted, restored}
use Rattle.aof_object.proofs.index.note_name.Goals as goal

pub returns-in_default-clause-noted : goal.returns-in_default-clause-noted
returns-in_default-clause-noted c =
    noted c.args.index.now c.insert.new.self c.args.name.now c.args.number (sym c.in_default.is ∙ c.in_ok-found.ensures.old) (λ q. c.in_ok-found.ensures.updates.0 (record { ref_ptr = (0, 0); now = q }))

pub returns-in_ok-insert-clause-noted : goal.returns-in_ok-insert-clause-noted
returns-in_ok-insert-clause-noted c =
    restored c.args.index.now c.insert.new.self c.insert-in-Some.new.self c.args.name.now c.args.number c.in-Some.first (sym c.in-Some.is ∙ c.in_ok-found.ensures.old)
    (λ q. c.in_ok-found.ensures.updates.0 (record { ref_ptr = (0, 0); now = q })) (λ q. c.in_ok-insert.ensures.updates.0 (record { ref_ptr = (0, 0); now = q }))
