use Rattle.std.proofs.Common.{refl}
use Rattle.arm7_bus.specs.contracts.devices.tick_at.{dyn-1-ghosts}
use Rattle.arm7_bus.proofs.TickLemmas.{set_ticked_in, set_lines_in}
use Rattle.arm7_bus.proofs.devices.tick_at.Goals as goal

pub returns-clause-devices : goal.returns-clause-devices
returns-clause-devices g c =
    set_ticked_in c.args.devices.now.items (λ z. ((dyn-1-ghosts g.dyn-1).0.entry z.vtable).1.base z.value) (λ z. ((dyn-1-ghosts g.dyn-1).0.entry z.vtable).1.size z.value) (λ z. ((dyn-1-ghosts g.dyn-1).0.entry z.vtable).1.state z.value) (λ z. ((dyn-1-ghosts g.dyn-1).0.entry z.vtable).1.touched z.value) c.args.i c.index_mut.result.now c.tick_one.new.device
    c.requires c.index_mut.ensures.value c.tick_one.ensures.place.0 c.tick_one.ensures.place.1 c.tick_one.ensures.state c.tick_one.ensures.touched

pub returns-clause-lines : goal.returns-clause-lines
returns-clause-lines g c =
    rw (c.tick_one.ensures.lines, set_lines_in c.args.devices.now.items (λ z. ((dyn-1-ghosts g.dyn-1).0.entry z.vtable).1.base z.value) (λ z. ((dyn-1-ghosts g.dyn-1).0.entry z.vtable).1.size z.value) (λ z. ((dyn-1-ghosts g.dyn-1).0.entry z.vtable).1.state z.value) (λ z. ((dyn-1-ghosts g.dyn-1).0.entry z.vtable).1.touched z.value) c.args.i c.tick_one.new.device c.requires, c.tick_one.ensures.state) refl
