use Rattle.std.proofs.Common.{◌≡◌, ◌/◌, Some, sym, ◌∙◌, arith}
use Rattle.arm7_bus.specs.Paging.{frame_of}
use Rattle.arm7_bus.proofs.PagingLemmas.{used_length}
use Rattle.arm7_bus.proofs.WindowLemmas.{window_moved}
use Rattle.arm7_bus.proofs.memory.Memory.window_on.Goals as goal

pub returns-in-Some-clause-window : goal.returns-in-Some-clause-window
returns-in-Some-clause-window c =
    let count = used_length c.args.self.now.pages.table in
    let started = c.requires.started in
    let is : frame_of c.args.self.now.pages.table (c.args.a / 4096) ≡ Some c.in-Some.frame =
    sym c.lookup.ensures ∙ c.in-Some.is in
    let p = c.args.self.now.pages.paging in
    let below = p.below (c.args.a / 4096) c.in-Some.frame is in
    let fits = p.fits in
    let few = p.few in
    let from = c.from.ensures in
    window_moved c.args.self.now.banks.items c.args.self.now.pages.table c.args.self.now.last _ _ c.args.a c.in-Some.frame
    c.requires.found (omega arith) (omega arith) (omega arith) (omega arith) is
