use Rattle.asm_sets.proofs.SetLemmas.{ref_added}
use Rattle.asm_sets.proofs.refs.NameRefs.add.Goals as goal

pub returns : goal.returns
returns c =
    rw (← c.self.view_is, ← c.as_slice.ensures)
    (ref_added c.self.inside.names.keys c.insert.new.self.keys c.as_slice.result.now
    (λ q. c.in_ok-insert.ensures.updates.0 (record { ref_ptr = (0, 0); now = q })))
