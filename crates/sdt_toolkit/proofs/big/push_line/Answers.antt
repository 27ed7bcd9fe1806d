use Rattle.sdt_toolkit.proofs.BigAnswer.{in_parts}
use Rattle.sdt_toolkit.proofs.big.push_line.Goals as goal

pub returns : goal.returns
returns g c =
    in_parts c.args.count c.args.words c.args.ended.now.steps c.args.ended.now.sum _ _ _ _ _ _ _ _ _ _ c.requires c.in_ok-push.ensures (rw c.from.ensures at c.in_ok-push_decimal.ensures)
    c.in_ok-push-2.ensures (rw c.from-2.ensures at c.in_ok-push_decimal-2.ensures) c.in_ok-push-3.ensures c.in_ok-push_decimal-3.ensures c.in_ok-push-4.ensures (rw c.from-3.ensures at c.in_ok-push_hexadecimal.ensures) c.in_ok-push-5.ensures
