use Rattle.std.proofs.Common.{◌<◌, arith}
use Rattle.std.specs.Ordering.{nat_cmp}
use Rattle.std.specs.BTreeMap.{get}
use Rattle.bin_image.proofs.RangeLemmas.{none_meets_empty, none_meets_first, last_meets}
use Rattle.bin_image.proofs.loads.Loads.meets.Goals as goal

pub returns-then-load-eq0 : goal.returns-then-load-eq0
returns-then-load-eq0 c = none_meets_empty c.args.self.now.lines.items c.args.load.now c.if-load-eq0.true

pub returns-in-Some : goal.returns-in-Some
returns-in-Some c =
    let some : 0 < c.args.load.now.size = omega (arith, c.if-load-eq0.false) in
    let last = rw (c.from-base.ensures, c.from.ensures) at c.in-Some.ensures in
    rw c.from-base.ensures (last_meets (get nat_cmp c.args.self.now.ends) c.args.self.now.lines.items c.args.load.now c.in-Some.end c.args.self.now.indexed some last)

pub returns-in-None : goal.returns-in-None
returns-in-None c =
    let last = rw (c.from-base.ensures, c.from.ensures) at c.in-None.ensures in
    none_meets_first (get nat_cmp c.args.self.now.ends) c.args.self.now.lines.items c.args.load.now c.args.self.now.indexed last
