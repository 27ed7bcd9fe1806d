use Rattle.std.proofs.Common.{arith}
use Rattle.arm7_bus.specs.Paging.{used_in}
use Rattle.arm7_bus.proofs.ClaimLemmas.{use_length, use_room}
use Rattle.arm7_bus.proofs.PagingLemmas.{used_length}
use Rattle.arm7_bus.proofs.pages.Pages.use_all.Goals as goal

pub use_page-requires-clause-page : goal.use_page-requires-clause-page
use_page-requires-clause-page c =
    let len = use_length c.loop-k.self.table c.args.self.now.table c.args.first c.loop-k.k c.loop-k.invariant.0 in
    let within = c.requires.within in
    let test = c.loop-k-test.true in
    omega arith

pub use_page-requires-clause-room : goal.use_page-requires-clause-room
use_page-requires-clause-room c =
    let len = used_length c.args.self.now.table in
    let within = c.requires.within in
    use_room (used_in c.args.self.now.table) (used_in c.loop-k.self.table) c.args.first c.loop-k.k c.args.count c.args.self.now.room c.loop-k.self.room
    c.loop-k.invariant.0 c.loop-k-test.true (omega arith) c.requires.room c.loop-k.invariant.2
