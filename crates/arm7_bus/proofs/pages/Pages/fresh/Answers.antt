use Rattle.std.proofs.Common.{◌+◌, get_or, false, arith}
use Rattle.arm7_bus.specs.Paging.{used_in}
use Rattle.arm7_bus.proofs.ClaimLemmas.{added_more, one_at_most}
use Rattle.arm7_bus.proofs.PagingLemmas.{used_length}
use Rattle.arm7_bus.proofs.pages.Pages.fresh.Goals as goal

pub loop-k-preserved : goal.loop-k-preserved
loop-k-preserved c =
    let len = used_length c.args.self.now.table in
    let within = c.requires.within in
    let test = c.loop-k-test.true in
    let sum = c.loop-k.invariant.0 in
    let few = c.loop-k.invariant.1 in
    let one = one_at_most (get_or (used_in c.args.self.now.table) (c.args.first + c.loop-k.k) false) c.added-n.result c.added-n.ensures in
    let more = added_more (used_in c.args.self.now.table) c.args.first c.loop-k.k c.added-n.result (omega arith) c.added-n.ensures in
    (omega arith, omega arith)
