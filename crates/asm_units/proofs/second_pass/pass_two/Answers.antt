use Rattle.asm_units.proofs.PassLemmas.{passed}
use Rattle.asm_units.proofs.second_pass.pass_two.Goals as goal

pub returns : goal.returns
returns c = λ c' data_names sizes s word e h is.
    let w = c.args.what.now in
    passed c' data_names sizes s e word w c.in_ok-units.units c.in_ok-loads.loads c.in_ok-said.said c.first_told.result c.in_ok-number.number c.joined.result
    c.joined.ensures
    c.first_told.ensures (c.in_ok-units.ensures c' data_names sizes s word h) (c.in_ok-loads.ensures c' data_names sizes s word w e h is)
    (c.in_ok-said.ensures c' data_names sizes s word h) (c.in_ok-number.ensures c' h.lookup)
