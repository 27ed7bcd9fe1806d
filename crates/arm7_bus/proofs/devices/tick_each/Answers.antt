use Rattle.std.proofs.Common.{◌≡◌, ◌+◌, length, ◌∙◌, sym, arith}
use Rattle.arm7_bus.specs.Seats.{seats_by, lines_up}
use Rattle.arm7_bus.specs.contracts.devices.tick_each.{dyn-1-ghosts}
use Rattle.arm7_bus.proofs.TickLemmas.{at_next, at_end, both_lines, seats_length}
use Rattle.arm7_bus.proofs.devices.tick_each.Goals as goal

pub loop-i-preserved : goal.loop-i-preserved
loop-i-preserved g c = (
  at_next (seats_by (λ z. ((dyn-1-ghosts g.dyn-1).0.entry z.vtable).1.base z.value) (λ z. ((dyn-1-ghosts g.dyn-1).0.entry z.vtable).1.size z.value) (λ z. ((dyn-1-ghosts g.dyn-1).0.entry z.vtable).1.state z.value) (λ z. ((dyn-1-ghosts g.dyn-1).0.entry z.vtable).1.touched z.value) c.args.devices.now.items) (seats_by (λ z. ((dyn-1-ghosts g.dyn-1).0.entry z.vtable).1.base z.value) (λ z. ((dyn-1-ghosts g.dyn-1).0.entry z.vtable).1.size z.value) (λ z. ((dyn-1-ghosts g.dyn-1).0.entry z.vtable).1.state z.value) (λ z. ((dyn-1-ghosts g.dyn-1).0.entry z.vtable).1.touched z.value) c.loop-i.devices.items) (seats_by (λ z. ((dyn-1-ghosts g.dyn-1).0.entry z.vtable).1.base z.value) (λ z. ((dyn-1-ghosts g.dyn-1).0.entry z.vtable).1.size z.value) (λ z. ((dyn-1-ghosts g.dyn-1).0.entry z.vtable).1.state z.value) (λ z. ((dyn-1-ghosts g.dyn-1).0.entry z.vtable).1.touched z.value) c.tick_at.new.devices.items) c.loop-i.i (c.loop-i.i + 1)
      c.loop-i.lines.irq c.loop-i.lines.fiq c.joined-lines.result.irq c.joined-lines.result.fiq c.tick_at.result c.loop-i.invariant.0 (omega arith)
      c.tick_at.ensures.devices c.tick_at.ensures.lines c.joined-lines.ensures.irq c.joined-lines.ensures.fiq,
  (c.loop-i.invariant.1 ∙ sym c.tick_at.ensures.len),
  (c.loop-i.invariant.2 ∙ sym c.tick_at.ensures.len),
)

pub returns-clause-devices : goal.returns-clause-devices
returns-clause-devices g c =
    let test = c.loop-i-test.false in
    let auto = c.loop-i.auto.i-end in
    let at_len = c.loop-i.invariant.1 in
    let same = c.loop-i.invariant.2 in
    let all : c.loop-i.i ≡ length c.args.devices.now.items = omega arith in
    let end = at_end (seats_by (λ z. ((dyn-1-ghosts g.dyn-1).0.entry z.vtable).1.base z.value) (λ z. ((dyn-1-ghosts g.dyn-1).0.entry z.vtable).1.size z.value) (λ z. ((dyn-1-ghosts g.dyn-1).0.entry z.vtable).1.state z.value) (λ z. ((dyn-1-ghosts g.dyn-1).0.entry z.vtable).1.touched z.value) c.args.devices.now.items) (seats_by (λ z. ((dyn-1-ghosts g.dyn-1).0.entry z.vtable).1.base z.value) (λ z. ((dyn-1-ghosts g.dyn-1).0.entry z.vtable).1.size z.value) (λ z. ((dyn-1-ghosts g.dyn-1).0.entry z.vtable).1.state z.value) (λ z. ((dyn-1-ghosts g.dyn-1).0.entry z.vtable).1.touched z.value) c.loop-i.devices.items) c.loop-i.i c.loop-i.lines.irq c.loop-i.lines.fiq c.loop-i.invariant.0
    (all ∙ sym (seats_length c.args.devices.now.items (λ z. ((dyn-1-ghosts g.dyn-1).0.entry z.vtable).1.base z.value) (λ z. ((dyn-1-ghosts g.dyn-1).0.entry z.vtable).1.size z.value) (λ z. ((dyn-1-ghosts g.dyn-1).0.entry z.vtable).1.state z.value) (λ z. ((dyn-1-ghosts g.dyn-1).0.entry z.vtable).1.touched z.value))) in
    end.0

pub returns-clause-lines : goal.returns-clause-lines
returns-clause-lines g c =
    let test = c.loop-i-test.false in
    let auto = c.loop-i.auto.i-end in
    let at_len = c.loop-i.invariant.1 in
    let same = c.loop-i.invariant.2 in
    let all : c.loop-i.i ≡ length c.args.devices.now.items = omega arith in
    let end = at_end (seats_by (λ z. ((dyn-1-ghosts g.dyn-1).0.entry z.vtable).1.base z.value) (λ z. ((dyn-1-ghosts g.dyn-1).0.entry z.vtable).1.size z.value) (λ z. ((dyn-1-ghosts g.dyn-1).0.entry z.vtable).1.state z.value) (λ z. ((dyn-1-ghosts g.dyn-1).0.entry z.vtable).1.touched z.value) c.args.devices.now.items) (seats_by (λ z. ((dyn-1-ghosts g.dyn-1).0.entry z.vtable).1.base z.value) (λ z. ((dyn-1-ghosts g.dyn-1).0.entry z.vtable).1.size z.value) (λ z. ((dyn-1-ghosts g.dyn-1).0.entry z.vtable).1.state z.value) (λ z. ((dyn-1-ghosts g.dyn-1).0.entry z.vtable).1.touched z.value) c.loop-i.devices.items) c.loop-i.i c.loop-i.lines.irq c.loop-i.lines.fiq c.loop-i.invariant.0
    (all ∙ sym (seats_length c.args.devices.now.items (λ z. ((dyn-1-ghosts g.dyn-1).0.entry z.vtable).1.base z.value) (λ z. ((dyn-1-ghosts g.dyn-1).0.entry z.vtable).1.size z.value) (λ z. ((dyn-1-ghosts g.dyn-1).0.entry z.vtable).1.state z.value) (λ z. ((dyn-1-ghosts g.dyn-1).0.entry z.vtable).1.touched z.value))) in
    both_lines c.loop-i.lines.irq c.loop-i.lines.fiq (lines_up (seats_by (λ z. ((dyn-1-ghosts g.dyn-1).0.entry z.vtable).1.base z.value) (λ z. ((dyn-1-ghosts g.dyn-1).0.entry z.vtable).1.size z.value) (λ z. ((dyn-1-ghosts g.dyn-1).0.entry z.vtable).1.state z.value) (λ z. ((dyn-1-ghosts g.dyn-1).0.entry z.vtable).1.touched z.value) c.loop-i.devices.items)) end.1 end.2
