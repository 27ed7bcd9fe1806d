use Rattle.std.proofs.Common.{◌∙◌, ap}
use Rattle.arm7_bus.specs.Seats.{seats_by}
use Rattle.run_opening.specs.contracts.opening.open.{dyn-1-ghosts}
use Rattle.run_opening.proofs.OpeningLemmas.{if_ok, if_err, misplaced, opened, roomy, ready, unfilled}
use Rattle.run_opening.proofs.opening.open.Goals as goal

pub returns-in-Some-clause-closed : goal.returns-in-Some-clause-closed
returns-in-Some-clause-closed g c =
    misplaced c.args.memory.now c.args.rom.now c.deref.result.now c.as_slice.result.now c.args.image.now _ _ c.in-Some.defect (c.deref.ensures.value ∙ c.in-Ok.ensures) c.as_slice.ensures
    (ap (seats_by (λ z. ((dyn-1-ghosts g.dyn-1).0.entry z.vtable).1.base z.value) (λ z. ((dyn-1-ghosts g.dyn-1).0.entry z.vtable).1.size z.value) (λ z. ((dyn-1-ghosts g.dyn-1).0.entry z.vtable).1.state z.value) (λ z. ((dyn-1-ghosts g.dyn-1).0.entry z.vtable).1.touched z.value)) c.deref-2.ensures.value) c.in-Some.ensures

pub returns-clause-opened : goal.returns-clause-opened
returns-clause-opened g c =
    if_ok c.build.result
    (λ bus f. opened c.args.memory.now c.args.rom.now c.in-Ok.ranges.items c.in-Ok.ensures c.args.image.now _ c.requires.memory c.requires.rom
    (rw (c.deref.ensures.value, c.deref-2.ensures.value) at c.in_default-misplaced.ensures.0) (rw (c.deref.ensures.value, c.as_slice.ensures) at c.in_default-misplaced.ensures.1) _ f)
    (rw c.deref-3.ensures.value at c.build.ensures.filled)

pub returns-clause-roomy : goal.returns-clause-roomy
returns-clause-roomy g c =
    if_ok c.build.result
    (λ bus f. roomy c.args.memory.now c.args.rom.now c.in-Ok.ranges.items c.in-Ok.ensures c.args.image.now _ c.requires.memory c.requires.rom
    (rw (c.deref.ensures.value, c.deref-2.ensures.value) at c.in_default-misplaced.ensures.0) (rw (c.deref.ensures.value, c.as_slice.ensures) at c.in_default-misplaced.ensures.1) _ f)
    (rw c.deref-3.ensures.value at c.build.ensures.filled)

pub returns-clause-ready : goal.returns-clause-ready
returns-clause-ready g c =
    if_ok c.build.result
    (λ bus f. ready c.args.memory.now c.args.rom.now c.in-Ok.ranges.items c.in-Ok.ensures c.args.image.now _ c.requires.memory c.requires.rom
    (rw (c.deref.ensures.value, c.deref-2.ensures.value) at c.in_default-misplaced.ensures.0) (rw (c.deref.ensures.value, c.as_slice.ensures) at c.in_default-misplaced.ensures.1) c.build.ensures.whole _ f)
    (rw c.deref-3.ensures.value at c.build.ensures.filled)

pub returns-clause-closed : goal.returns-clause-closed
returns-clause-closed g c =
    if_err c.build.result
    (λ e u. unfilled c.args.memory.now c.args.rom.now c.in-Ok.ranges.items c.in-Ok.ensures c.args.image.now _ c.requires.memory c.requires.rom
    (rw (c.deref.ensures.value, c.deref-2.ensures.value) at c.in_default-misplaced.ensures.0) (rw (c.deref.ensures.value, c.as_slice.ensures) at c.in_default-misplaced.ensures.1) e.fault u)
    (rw c.deref-3.ensures.value at c.build.ensures.closed)
