use Rattle.std.proofs.Common.{◌∙◌, sym, refl}
use Rattle.arm7_core.proofs.ArmParts.{row_acts}
use Rattle.arm7_core.proofs.effect.effect.Goals as goal

pub returns-then-is_on_registers-clause-done : goal.returns-then-is_on_registers-clause-done
returns-then-is_on_registers-clause-done g c =
    row_acts c.args.i.now c.args.i.now c.args.core.now c.act.new.state _ c.requires.ready refl (sym c.is_on_registers.ensures ∙ c.if-is_on_registers.true) c.act.ensures
