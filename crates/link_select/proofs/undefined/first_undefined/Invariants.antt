use Rattle.std.proofs.Common.{◌≡◌, drop}
use Rattle.link_model.specs.Options.{first_given}
use Rattle.link_select.specs.Regions.{known_by}
use Rattle.link_select.specs.Undefined.{lacking_in}
use Rattle.link_select.proofs.undefined.first_undefined.Given as goal

abbrev pub invariant-loop-object : goal.invariant-loop-object
invariant-loop-object l = first_given (lacking_in (known_by l.exports l.regions)) (drop l.object-index l.objects) ≡ first_given (lacking_in (known_by l.exports l.regions)) l.objects
