use Rattle.std.proofs.Common.{ℕ, ◌-◌, ◌∙◌, ap}
use Rattle.sdt_outside.specs.Devices.{stored}
use Rattle.arm7_bus.specs.contracts.devices.write_one.{dyn-1-ghosts}
use Rattle.arm7_bus.proofs.SeatLemmas.{along}
use Rattle.arm7_bus.proofs.devices.write_one.Goals as goal

pub returns-clause-state : goal.returns-clause-state
returns-clause-state g c =
    c.write.ensures.0
    ∙ along c.deref_box_mut-1.ensures.value.1 (λ z. stored (((dyn-1-ghosts g.dyn-1).0.entry z.0).1.state z.1) (c.args.a - c.range-base.result.base) c.args.width c.args.value)
    ∙ ap (λ (k : ℕ). stored (((dyn-1-ghosts g.dyn-1).0.entry c.args.device.now.vtable).1.state c.args.device.now.value) (c.args.a - k) c.args.width c.args.value) (c.range-base.ensures.0.0 ∙ along c.deref_box-1.ensures.1 (λ z. ((dyn-1-ghosts g.dyn-1).0.entry z.0).1.base z.1))
