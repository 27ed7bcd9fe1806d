use Rattle.std.proofs.Common.{◌∙◌}
use Rattle.arm7_bus.proofs.TickLemmas.{seats_length, two_lines, two_ticked}
use Rattle.arm7_bus.proofs.devices.tick_two.Goals as goal

pub returns-clause-devices : goal.returns-clause-devices
returns-clause-devices g c =
    two_ticked _ _ _ c.tick_at-first.ensures.devices c.tick_at-second.ensures.devices (seats_length c.args.devices.now.items _ _ _ _ ∙ c.requires)

pub returns-clause-lines : goal.returns-clause-lines
returns-clause-lines g c =
    two_lines _ _ _ _ _ _ c.tick_at-first.ensures.devices c.tick_at-second.ensures.devices (seats_length c.args.devices.now.items _ _ _ _ ∙ c.requires)
    c.tick_at-first.ensures.lines c.tick_at-second.ensures.lines c.joined.ensures.irq c.joined.ensures.fiq
