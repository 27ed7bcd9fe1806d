use Rattle.std.proofs.Common.{drop, arith}
use Rattle.sdt_toolkit.proofs.InputLemmas.{part_start, part_slash, part_other}
use Rattle.sdt_toolkit.proofs.names.last_part.Goals.{then-name-i-eq47, else-name-i-eq47}
use Rattle.sdt_toolkit.proofs.names.last_part.Goals as goal

pub loop-i-init : goal.loop-i-init
loop-i-init c = record { low = omega arith; part = part_start c.args.name.now }

pub loop-i-preserved : goal.loop-i-preserved
loop-i-preserved c =
    let name = c.args.name.now in
    let i = c.loop-i.i in
    let before = c.loop-i.invariant in
    elim c.if-name-i-eq47.branch [
      | then-name-i-eq47 w ↦ record {
        low = omega (arith, w.start-is);
        part = rw w.start-is (part_slash name (drop c.loop-i.start name) i c.loop-i-test.true w.if-name-i-eq47.true before.part);
      }
      | else-name-i-eq47 w ↦ record {
        low = omega (arith, w.start-is, before.low);
        part = rw w.start-is (part_other name (drop c.loop-i.start name) i c.loop-i-test.true w.if-name-i-eq47.false before.part);
      }
    ]
