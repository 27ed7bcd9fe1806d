use Rattle.std.proofs.Common.{◌∙◌}
use Rattle.asm_model.specs.Laid.{names_behind}
use Rattle.asm_laying.proofs.LayLemmas.{may_place, fits_all, tells}
use Rattle.asm_laying.proofs.laying.Laying.lay.Goals as goal

pub enter-requires : goal.enter-requires
enter-requires c = record { declared = c.args.declared.now; may = c.requires.may }

pub settle-requires-clause-there : goal.settle-requires-clause-there
settle-requires-clause-there c =
    may_place c.args.declared.now c.args.statement.now c.requires.may.before c.enter.new.self c.in_ok-location.location
    (c.in_ok-location.ensures c.args.declared.now c.requires.may.before c.requires.may.laying)

pub settle-requires-clause-extent : goal.settle-requires-clause-extent
settle-requires-clause-extent c =
    let reach = c.in_ok-location.ensures c.args.declared.now c.requires.may.before c.requires.may.laying in
    fits_all c.extents_are_placeable.ensures (names_behind c.args.declared.now c.args.statement.now c.requires.may.before) c.args.statement.now.what
    c.in_ok-found.found.extent
    (c.in_ok-found.ensures c.requires.may.before reach.location (c.as_slice.ensures.value ∙ reach.at.names) (c.as_ref.ensures.value ∙ c.in_ok-own.ensures)).needed.extent_is

pub returns : goal.returns
returns c = λ before h.
    let reach = c.in_ok-location.ensures c.args.declared.now before h in
    let found = c.in_ok-found.ensures before reach.location (c.as_slice.ensures.value ∙ reach.at.names) (c.as_ref.ensures.value ∙ c.in_ok-own.ensures) in
    tells c.args.declared.now c.args.statement.now before c.in_ok-location.location c.in_ok-found.found.number c.in_ok-placed.placed c.settle.new.self
    reach.location found.number (c.in_ok-placed.ensures c.args.declared.now before reach found.needed found.strings c.in_ok-own.ensures)
