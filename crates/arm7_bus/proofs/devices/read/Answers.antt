use Rattle.std.proofs.Common.{◌∙◌, sym, ap, Some, option_map}
use Rattle.sdt_word.specs.Codes.{bytes_in}
use Rattle.arm7_bus.specs.Seats.{seat_read, seat_answer}
use Rattle.arm7_bus.specs.contracts.devices.read.{dyn-1-ghosts}
use Rattle.arm7_bus.proofs.SeatLemmas.{found_in_list, missing_in_list, seat_is}
use Rattle.arm7_bus.proofs.devices.read.Goals as goal

pub read_one-requires-clause-within : goal.read_one-requires-clause-within
read_one-requires-clause-within g c =
    let f = found_in_list c.args.devices.now.items (λ z. ((dyn-1-ghosts g.dyn-1).0.entry z.vtable).1.base z.value) (λ z. ((dyn-1-ghosts g.dyn-1).0.entry z.vtable).1.size z.value) (λ z. ((dyn-1-ghosts g.dyn-1).0.entry z.vtable).1.state z.value) (λ z. ((dyn-1-ghosts g.dyn-1).0.entry z.vtable).1.touched z.value) c.args.a (bytes_in c.args.width) c.in-Some.i (rw (c.deref.ensures.value, c.bytes.ensures) at (sym c.find.ensures.place ∙ c.in-Some.is)) in
    f.access c.index_mut.result.now c.index_mut.ensures.value

pub returns-in-Some-clause-devices : goal.returns-in-Some-clause-devices
returns-in-Some-clause-devices g c =
    let f = found_in_list c.args.devices.now.items (λ z. ((dyn-1-ghosts g.dyn-1).0.entry z.vtable).1.base z.value) (λ z. ((dyn-1-ghosts g.dyn-1).0.entry z.vtable).1.size z.value) (λ z. ((dyn-1-ghosts g.dyn-1).0.entry z.vtable).1.state z.value) (λ z. ((dyn-1-ghosts g.dyn-1).0.entry z.vtable).1.touched z.value) c.args.a (bytes_in c.args.width) c.in-Some.i (rw (c.deref.ensures.value, c.bytes.ensures) at (sym c.find.ensures.place ∙ c.in-Some.is)) in
    f.changed seat_read c.index_mut.result.now c.read_one.new.device c.index_mut.ensures.value
    (seat_is c.read_one.new.device (λ z. ((dyn-1-ghosts g.dyn-1).0.entry z.vtable).1.base z.value) (λ z. ((dyn-1-ghosts g.dyn-1).0.entry z.vtable).1.size z.value) (λ z. ((dyn-1-ghosts g.dyn-1).0.entry z.vtable).1.state z.value) (λ z. ((dyn-1-ghosts g.dyn-1).0.entry z.vtable).1.touched z.value) (seat_read (record { base = _; size = _; state = _; touches = _ })) c.read_one.ensures.place.0 c.read_one.ensures.place.1 c.read_one.ensures.state c.read_one.ensures.touched)

pub returns-in-None-clause-devices : goal.returns-in-None-clause-devices
returns-in-None-clause-devices g c =
    let m = missing_in_list c.args.devices.now.items (λ z. ((dyn-1-ghosts g.dyn-1).0.entry z.vtable).1.base z.value) (λ z. ((dyn-1-ghosts g.dyn-1).0.entry z.vtable).1.size z.value) (λ z. ((dyn-1-ghosts g.dyn-1).0.entry z.vtable).1.state z.value) (λ z. ((dyn-1-ghosts g.dyn-1).0.entry z.vtable).1.touched z.value) c.args.a (bytes_in c.args.width) (rw (c.deref.ensures.value, c.bytes.ensures) at (sym c.find.ensures.place ∙ c.in-None.is)) in
    sym (m.changed seat_read)

pub returns-in-Some-clause-answer : goal.returns-in-Some-clause-answer
returns-in-Some-clause-answer g c =
    let f = found_in_list c.args.devices.now.items (λ z. ((dyn-1-ghosts g.dyn-1).0.entry z.vtable).1.base z.value) (λ z. ((dyn-1-ghosts g.dyn-1).0.entry z.vtable).1.size z.value) (λ z. ((dyn-1-ghosts g.dyn-1).0.entry z.vtable).1.state z.value) (λ z. ((dyn-1-ghosts g.dyn-1).0.entry z.vtable).1.touched z.value) c.args.a (bytes_in c.args.width) c.in-Some.i (rw (c.deref.ensures.value, c.bytes.ensures) at (sym c.find.ensures.place ∙ c.in-Some.is)) in
    ap Some c.read_one.ensures.answer ∙ ap (option_map (seat_answer c.args.a c.args.width)) (sym (f.device c.index_mut.result.now c.index_mut.ensures.value))

pub returns-in-None-clause-answer : goal.returns-in-None-clause-answer
returns-in-None-clause-answer g c =
    let m = missing_in_list c.args.devices.now.items (λ z. ((dyn-1-ghosts g.dyn-1).0.entry z.vtable).1.base z.value) (λ z. ((dyn-1-ghosts g.dyn-1).0.entry z.vtable).1.size z.value) (λ z. ((dyn-1-ghosts g.dyn-1).0.entry z.vtable).1.state z.value) (λ z. ((dyn-1-ghosts g.dyn-1).0.entry z.vtable).1.touched z.value) c.args.a (bytes_in c.args.width) (rw (c.deref.ensures.value, c.bytes.ensures) at (sym c.find.ensures.place ∙ c.in-None.is)) in
    ap (option_map (seat_answer c.args.a c.args.width)) (sym m.device)
