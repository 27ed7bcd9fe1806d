use Rattle.std.proofs.Common.{drop}
use Rattle.link_values.specs.Shifts.{names_moving}
use Rattle.link_model.specs.Members.{link_of}
use Rattle.link_shifts.specs.Balances.{AreBalances}
use Rattle.link_shifts.proofs.balances.balances_of.Given as goal

abbrev pub invariant-loop-i : goal.invariant-loop-i
invariant-loop-i l = AreBalances (names_moving (link_of l.image.linked.now) l.image.placement.now l.object) (drop l.i l.relocs) l.balances
