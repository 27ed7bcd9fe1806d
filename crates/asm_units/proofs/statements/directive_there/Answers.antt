use Rattle.std.proofs.Common.{◌≡◌}
use Rattle.asm_model.specs.OccupiedCode.{occupied_of_code}
use Rattle.asm_model.proofs.PartLemmas.{occupied_said}
use Rattle.asm_units.proofs.statements.directive_there.Goals as goal

pub occupied_units-requires : goal.occupied_units-requires
occupied_units-requires c = occupied_said c.args.line.now (occupied_of_code c.occupied_by.result) c.requires c.occupied_by.ensures

pub returns : goal.returns
returns c = rw c.occupied_by.ensures at c.occupied_units.ensures
