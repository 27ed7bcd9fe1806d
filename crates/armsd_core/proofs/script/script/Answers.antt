use Rattle.std.proofs.Common.{arith, sym}
use Rattle.armsd_core.proofs.ScriptLemmas.{goes_on}
use Rattle.armsd_core.proofs.script.script.Goals as goal

pub lines-preserved : goal.lines-preserved
lines-preserved c = record {
  same = goes_on c.lines.read.commands.items c.add.new.self.commands.items c.lines.number c.lines.read.points _ c.lines.read.devices _ c.lines.rest.now c.first_line.result.1.now c.first_line.result.0.now c.in-Ok.found _
      c.lines.invariant.same c.first_line.ensures.first (sym c.in-Ok.ensures) c.in_ok-add.ensures.commands c.in_ok-add.ensures.points c.in_ok-add.ensures.devices;
  few = omega (arith, c.lines.invariant.few, c.first_line.ensures.shorter);
}
