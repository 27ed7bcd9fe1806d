use Rattle.std.specs.Option.{option_copied}
use Rattle.link_items.specs.LinkedItems.{contents_of}
use Rattle.link_place.proofs.PromiseLemmas.{apart_given, copies_given, room_given, start_given, whole_given}
use Rattle.link_place.proofs.placed.place.Goals as goal

pub returns-clause-exact : goal.returns-clause-exact
returns-clause-exact c = rw (c.as_slice.ensures, c.as_slice-2.ensures) at c.place_input.ensures

pub returns-clause-apart : goal.returns-clause-apart
returns-clause-apart c =
    apart_given c.args.kind.now (option_copied c.args.ram) (contents_of c.args.linked.now.objects c.args.assigned.now.regions c.args.veneers.now) c.place_input.result
    (rw (c.as_slice.ensures, c.as_slice-2.ensures) at c.place_input.ensures)

pub returns-clause-copies : goal.returns-clause-copies
returns-clause-copies c =
    copies_given c.args.kind.now (option_copied c.args.ram) (contents_of c.args.linked.now.objects c.args.assigned.now.regions c.args.veneers.now) c.place_input.result
    (rw (c.as_slice.ensures, c.as_slice-2.ensures) at c.place_input.ensures)

pub returns-clause-room : goal.returns-clause-room
returns-clause-room c =
    room_given c.args.kind.now (option_copied c.args.ram) (contents_of c.args.linked.now.objects c.args.assigned.now.regions c.args.veneers.now) c.place_input.result
    (rw (c.as_slice.ensures, c.as_slice-2.ensures) at c.place_input.ensures)

pub returns-clause-startup : goal.returns-clause-startup
returns-clause-startup c =
    start_given c.args.kind.now (option_copied c.args.ram) (contents_of c.args.linked.now.objects c.args.assigned.now.regions c.args.veneers.now) c.place_input.result
    (rw (c.as_slice.ensures, c.as_slice-2.ensures) at c.place_input.ensures)

pub returns-clause-whole : goal.returns-clause-whole
returns-clause-whole c =
    whole_given c.args.kind.now (option_copied c.args.ram) (contents_of c.args.linked.now.objects c.args.assigned.now.regions c.args.veneers.now) c.place_input.result
    (rw (c.as_slice.ensures, c.as_slice-2.ensures) at c.place_input.ensures)
