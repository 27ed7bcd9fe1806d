use Rattle.std.proofs.Common.{arith}
use Rattle.bin_image.specs.Reading.{shown}
use Rattle.bin_image.proofs.Pieces.{at_end, at_stuck, at_next}
use Rattle.bin_image.proofs.reading.map.Goals as goal

pub returns-in_default : goal.returns-in_default
returns-in_default c =
    at_end c.args.b.now c.lines.at (shown c.lines.read) c.lines.rest.now c.last.result c.in_default.ensures.parts c.lines.invariant.1 c.last.ensures

pub returns-in_default-2 : goal.returns-in_default-2
returns-in_default-2 c =
    at_stuck c.args.b.now c.lines.at (shown c.lines.read) c.lines.rest.now c.in-Some.line.now c.in-Some.after.now c.in_ok-longer.field-0 c.bad_map.result
    c.in-Some.ensures.parts c.lines.invariant.1 c.in_default-2.is c.in_ok-longer.ensures c.bad_map.ensures

pub lines-preserved : goal.lines-preserved
lines-preserved c = (
  omega (arith, c.in-Some.ensures.sizes, c.lines.invariant.0),
  at_next c.args.b.now c.lines.at (shown c.lines.read) c.lines.rest.now c.in-Some.line.now c.in-Some.after.now c.in_ok-longer.field-0 c.in-Some-2.longer
      c.in-Some.ensures.parts c.lines.invariant.1 c.in-Some-2.is c.in_ok-longer.ensures,
)
