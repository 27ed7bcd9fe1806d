use Rattle.std.proofs.Common.{Option, ◌∙◌, subst}
use Rattle.std.specs.Global.{Vec}
use Rattle.asm_model.specs.declared.names.LaidName.{LaidName}
use Rattle.asm_model.specs.Labels.{declared_names}
use Rattle.asm_model.specs.Laid.{laid}
use Rattle.asm_laying.specs.Laying.{AreKnownNames}
use Rattle.asm_layout.proofs.FinishLemmas.{names_are}
use Rattle.asm_layout.proofs.finishing.names_of.Goals as goal

pub returns-in-Some : goal.returns-in-Some
returns-in-Some c = λ statements named known.
    c.with_entries.ensures
    ∙ names_are c.known_names_are_final.ensures statements c.args.laid.now c.args.declared c.in-Some.entries named
    (subst (λ (o : Option (Vec LaidName)). AreKnownNames (declared_names statements) (laid statements) o) c.in-Some.is known)
