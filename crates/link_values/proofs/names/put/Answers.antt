use Rattle.link_values.proofs.names.put.Goals as goal

pub returns : goal.returns
returns g c = λ q. c.in_ok-insert.ensures.updates.0 (record { ref_ptr = (0, 0); now = q })
