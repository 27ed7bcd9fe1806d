use Rattle.std.proofs.Common.{refl, subst, ◌∙◌}
use Rattle.aof_object.specs.Validity.{IsValid}
use Rattle.sdt_toolkit.specs.Inputs.{module_of}
use Rattle.sdt_toolkit.specs.Starting.{HasBytes}
use Rattle.sdt_toolkit.proofs.BigAnswer.{named_as, object_is, object_told, unassembled}
use Rattle.sdt_toolkit.proofs.big_image.object_of.Goals as goal

pub returns-in-Err-clause-memory : goal.returns-in-Err-clause-memory
returns-in-Err-clause-memory c = unassembled c.big_law.ensures.assembled c.args.name.now _ c.args.count c.requires.few c.requires.source c.in-Err.fault c.in-Err.ensures.assembled c.in-Err.ensures.cause

pub returns-in_ok-named-in-Ok-clause-object : goal.returns-in_ok-named-in-Ok-clause-object
returns-in_ok-named-in-Ok-clause-object c =
    c.in_ok-named-in-Ok.ensures ∙ named_as c.args.name.now (module_of c.args.name.now) c.args.count _ _ _ refl refl
    (object_is c.big_law.ensures.assembled c.args.name.now _ c.args.count c.requires.few c.requires.source c.in-Ok.object c.in-Ok.ensures.assembled)

pub returns-in_ok-named-in-Ok-clause-told : goal.returns-in_ok-named-in-Ok-clause-told
returns-in_ok-named-in-Ok-clause-told c = object_told c.big_law.ensures.assembled c.args.name.now _ c.args.count c.requires.few c.requires.source c.in-Ok.object c.in-Ok.ensures.assembled

pub returns-in_ok-named-in-Ok-clause-valid : goal.returns-in_ok-named-in-Ok-clause-valid
returns-in_ok-named-in-Ok-clause-valid c = subst IsValid (object_is c.big_law.ensures.assembled c.args.name.now _ c.args.count c.requires.few c.requires.source c.in-Ok.object c.in-Ok.ensures.assembled) c.in-Ok.ensures.valid

pub returns-in_ok-named-in-Ok-clause-bytes : goal.returns-in_ok-named-in-Ok-clause-bytes
returns-in_ok-named-in-Ok-clause-bytes c =
    subst HasBytes (object_is c.big_law.ensures.assembled c.args.name.now _ c.args.count c.requires.few c.requires.source c.in-Ok.object c.in-Ok.ensures.assembled) (rw c.as_slice.ensures at c.areas_fit.ensures)
