use Rattle.std.proofs.Common.{rules, append_assoc}
use Rattle.sdt_fault.proofs.Places.{places_step}
use Rattle.sdt_fault.proofs.digits.+push_hexadecimal_places.Goals as goal

pub returns : goal.returns
returns t c =
    let e = places_step c.args.places c.args.number c.if-places-eq0.false in
    search (rules, append_assoc, e)
