use Rattle.std.proofs.Common.{◌∙◌, sym, ap, is_some}
use Rattle.sdt_word.specs.Codes.{bytes_in}
use Rattle.arm7_bus.specs.Seats.{seat_written}
use Rattle.arm7_bus.specs.contracts.devices.write.{dyn-1-ghosts}
use Rattle.arm7_bus.proofs.SeatLemmas.{found_in_list, missing_in_list, seat_is}
use Rattle.arm7_bus.proofs.devices.write.Goals as goal

pub write_one-requires-clause-within : goal.write_one-requires-clause-within
write_one-requires-clause-within g c =
    let f = found_in_list c.args.devices.now.items (λ z. ((dyn-1-ghosts g.dyn-1).0.entry z.vtable).1.base z.value) (λ z. ((dyn-1-ghosts g.dyn-1).0.entry z.vtable).1.size z.value) (λ z. ((dyn-1-ghosts g.dyn-1).0.entry z.vtable).1.state z.value) (λ z. ((dyn-1-ghosts g.dyn-1).0.entry z.vtable).1.touched z.value) c.args.a (bytes_in c.args.width) c.in-Some.i (rw (c.deref.ensures.value, c.bytes.ensures) at (sym c.find.ensures.place ∙ c.in-Some.is)) in
    f.access c.index_mut.result.now c.index_mut.ensures.value

pub returns-in-Some-clause-devices : goal.returns-in-Some-clause-devices
returns-in-Some-clause-devices g c =
    let f = found_in_list c.args.devices.now.items (λ z. ((dyn-1-ghosts g.dyn-1).0.entry z.vtable).1.base z.value) (λ z. ((dyn-1-ghosts g.dyn-1).0.entry z.vtable).1.size z.value) (λ z. ((dyn-1-ghosts g.dyn-1).0.entry z.vtable).1.state z.value) (λ z. ((dyn-1-ghosts g.dyn-1).0.entry z.vtable).1.touched z.value) c.args.a (bytes_in c.args.width) c.in-Some.i (rw (c.deref.ensures.value, c.bytes.ensures) at (sym c.find.ensures.place ∙ c.in-Some.is)) in
    f.changed (seat_written c.args.a c.args.width c.args.value) c.index_mut.result.now c.write_one.new.device c.index_mut.ensures.value
    (seat_is c.write_one.new.device (λ z. ((dyn-1-ghosts g.dyn-1).0.entry z.vtable).1.base z.value) (λ z. ((dyn-1-ghosts g.dyn-1).0.entry z.vtable).1.size z.value) (λ z. ((dyn-1-ghosts g.dyn-1).0.entry z.vtable).1.state z.value) (λ z. ((dyn-1-ghosts g.dyn-1).0.entry z.vtable).1.touched z.value) ((seat_written c.args.a c.args.width c.args.value) (record { base = _; size = _; state = _; touches = _ })) c.write_one.ensures.place.0 c.write_one.ensures.place.1 c.write_one.ensures.state c.write_one.ensures.touched)

pub returns-in-None-clause-devices : goal.returns-in-None-clause-devices
returns-in-None-clause-devices g c =
    let m = missing_in_list c.args.devices.now.items (λ z. ((dyn-1-ghosts g.dyn-1).0.entry z.vtable).1.base z.value) (λ z. ((dyn-1-ghosts g.dyn-1).0.entry z.vtable).1.size z.value) (λ z. ((dyn-1-ghosts g.dyn-1).0.entry z.vtable).1.state z.value) (λ z. ((dyn-1-ghosts g.dyn-1).0.entry z.vtable).1.touched z.value) c.args.a (bytes_in c.args.width) (rw (c.deref.ensures.value, c.bytes.ensures) at (sym c.find.ensures.place ∙ c.in-None.is)) in
    sym (m.changed (seat_written c.args.a c.args.width c.args.value))

pub returns-in-Some-clause-found : goal.returns-in-Some-clause-found
returns-in-Some-clause-found g c =
    let f = found_in_list c.args.devices.now.items (λ z. ((dyn-1-ghosts g.dyn-1).0.entry z.vtable).1.base z.value) (λ z. ((dyn-1-ghosts g.dyn-1).0.entry z.vtable).1.size z.value) (λ z. ((dyn-1-ghosts g.dyn-1).0.entry z.vtable).1.state z.value) (λ z. ((dyn-1-ghosts g.dyn-1).0.entry z.vtable).1.touched z.value) c.args.a (bytes_in c.args.width) c.in-Some.i (rw (c.deref.ensures.value, c.bytes.ensures) at (sym c.find.ensures.place ∙ c.in-Some.is)) in
    ap is_some (sym (f.device c.index_mut.result.now c.index_mut.ensures.value))

pub returns-in-None-clause-found : goal.returns-in-None-clause-found
returns-in-None-clause-found g c =
    let m = missing_in_list c.args.devices.now.items (λ z. ((dyn-1-ghosts g.dyn-1).0.entry z.vtable).1.base z.value) (λ z. ((dyn-1-ghosts g.dyn-1).0.entry z.vtable).1.size z.value) (λ z. ((dyn-1-ghosts g.dyn-1).0.entry z.vtable).1.state z.value) (λ z. ((dyn-1-ghosts g.dyn-1).0.entry z.vtable).1.touched z.value) c.args.a (bytes_in c.args.width) (rw (c.deref.ensures.value, c.bytes.ensures) at (sym c.find.ensures.place ∙ c.in-None.is)) in
    ap is_some (sym m.device)
