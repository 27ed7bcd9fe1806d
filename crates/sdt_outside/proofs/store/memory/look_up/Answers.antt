use Rattle.std.proofs.Common.{◌∙◌, sym, ap}
use Rattle.std.specs.Option.{option_copied}
use Rattle.sdt_outside.proofs.FileMaps.{get_entry}
use Rattle.sdt_outside.proofs.store.memory.look_up.Goals as goal

pub returns-in_default-clause-failed : goal.returns-in_default-clause-failed
returns-in_default-clause-failed c =
    get_entry c.args.files.now.entries c.args.name.now ∙ sym c.get.ensures.value ∙ ap option_copied c.in_default.is

pub returns-then-as_slice-most-clause-found : goal.returns-then-as_slice-most-clause-found
returns-then-as_slice-most-clause-found c =
    let is = get_entry c.args.files.now.entries c.args.name.now ∙ sym c.get.ensures.value ∙ ap option_copied c.in-Some.is in
    let long = rw c.as_slice.ensures at c.if-as_slice-most.true in
    (c.in-Some.found.now, is, long)

pub returns-clause-found : goal.returns-clause-found
returns-clause-found c =
    let is = get_entry c.args.files.now.entries c.args.name.now ∙ sym c.get.ensures.value ∙ ap option_copied c.in-Some.is in
    let short = rw c.as_slice.ensures at c.if-as_slice-most.false in
    rw c.in_ok-try_clone.ensures (is, short)
