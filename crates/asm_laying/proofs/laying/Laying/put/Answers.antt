use Rattle.std.proofs.Common.{◌∙◌, ◌++◌, Option, ap, subst, refl}
use Rattle.std.specs.Prelude.{Result, Ok}
use Rattle.asm_offsets.specs.declared.extents.PlacedExtent.{PlacedExtent}
use Rattle.asm_offsets.specs.declared.extents.TooLarge.{TooLarge}
use Rattle.asm_offsets.specs.Coded.{extent_of_code}
use Rattle.asm_offsets.specs.Running.{Places, Keeps}
use Rattle.asm_model.specs.declared.names.LaidName.{LaidName}
use Rattle.asm_model.specs.Labels.{imported_in, imported_entries}
use Rattle.asm_model.specs.Laid.{pieces_of}
use Rattle.asm_names.specs.Steps.{one_entry}
use Rattle.asm_laying.proofs.LayLemmas.{told_too_large, lays}
use Rattle.asm_laying.proofs.laying.Laying.put.Goals as goal

pub returns-in-Err : goal.returns-in-Err
returns-in-Err c = λ d before reach found marked owned.
    told_too_large d c.args.statement.now before c.args.location.now c.args.extent c.args.map c.args.equal reach.location found
    (subst (λ (r : Result PlacedExtent TooLarge). Places c.args.location.now.area (extent_of_code c.args.extent) (pieces_of before) c.place.new.self (Ok r))
    c.in-Err.is
    (c.in_ok-placed.ensures.places (pieces_of before) reach.at.areas.ends))

pub returns-in_ok-add_names-in-Ok : goal.returns-in_ok-add_names-in-Ok
returns-in_ok-add_names-in-Ok c = λ d before reach found marked owned.
    lays d c.args.statement before c.args.self.now _ c.args.location.now c.args.extent c.args.map c.args.equal c.in-Ok.placed reach.at reach.location found
    (subst (λ (r : Result PlacedExtent TooLarge). Places c.args.location.now.area (extent_of_code c.args.extent) (pieces_of before) c.place.new.self (Ok r))
    c.in-Ok.is
    (c.in_ok-placed.ensures.places (pieces_of before) reach.at.areas.ends))
    (subst (λ (r : Result PlacedExtent TooLarge). Keeps c.args.self.now.areas.ends c.place.new.self (Ok r)) c.in-Ok.is c.in_ok-placed.ensures.keeps)
    refl refl refl refl refl
    (c.in_ok-add_names-in-Ok.ensures
    ∙ ap (λ (o : Option LaidName). c.args.self.now.names.items ++ one_entry o ++ one_entry c.args.equal.entry
    ++ imported_entries (imported_in c.args.statement.now.what))
    (c.set_size.ensures c.args.location.now.area c.args.location.now.offset c.args.location.now.map c.args.location.now.thumb_label owned))
    c.still_known-self.ensures c.args.strings marked
