use Rattle.std.proofs.Common.{refl}
use Rattle.arm7_bus.specs.contracts.bus.Bus.detach.{dyn-1-ghosts}
use Rattle.arm7_bus.proofs.SeatLemmas.{seats_remove}
use Rattle.arm7_bus.proofs.bus.Bus.detach.Goals as goal

pub returns-clause-ok : goal.returns-clause-ok
returns-clause-ok g c =
    rw (c.remove-device.ensures.items, seats_remove c.args.self.now.devices.items (λ z. ((dyn-1-ghosts g.dyn-1).0.entry z.vtable).1.base z.value) (λ z. ((dyn-1-ghosts g.dyn-1).0.entry z.vtable).1.size z.value) (λ z. ((dyn-1-ghosts g.dyn-1).0.entry z.vtable).1.state z.value) (λ z. ((dyn-1-ghosts g.dyn-1).0.entry z.vtable).1.touched z.value) c.args.i) refl
