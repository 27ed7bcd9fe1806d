use Rattle.std.proofs.Common.{◌≡◌, length}
use Rattle.arm7_bus.specs.Seats.{seats_by}
use Rattle.arm7_bus.specs.contracts.devices.tick_each.{dyn-1-ghosts}
use Rattle.arm7_bus.proofs.TickLemmas.{IsHalfway}
use Rattle.arm7_bus.proofs.devices.tick_each.Given as goal

abbrev pub invariant-loop-i : goal.invariant-loop-i
invariant-loop-i g l =
    IsHalfway (seats_by (λ z. ((dyn-1-ghosts g.dyn-1).0.entry z.vtable).1.base z.value) (λ z. ((dyn-1-ghosts g.dyn-1).0.entry z.vtable).1.size z.value) (λ z. ((dyn-1-ghosts g.dyn-1).0.entry z.vtable).1.state z.value) (λ z. ((dyn-1-ghosts g.dyn-1).0.entry z.vtable).1.touched z.value) l.initial.devices.items) (seats_by (λ z. ((dyn-1-ghosts g.dyn-1).0.entry z.vtable).1.base z.value) (λ z. ((dyn-1-ghosts g.dyn-1).0.entry z.vtable).1.size z.value) (λ z. ((dyn-1-ghosts g.dyn-1).0.entry z.vtable).1.state z.value) (λ z. ((dyn-1-ghosts g.dyn-1).0.entry z.vtable).1.touched z.value) l.devices.items) l.i l.lines.irq l.lines.fiq
    × (l.i-end ≡ length l.devices.items) × (length l.initial.devices.items ≡ length l.devices.items)
