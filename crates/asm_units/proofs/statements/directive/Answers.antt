use Rattle.asm_units.proofs.ShowLemmas.{directive_answered}
use Rattle.asm_units.proofs.statements.directive.Goals as goal

pub returns : goal.returns
returns c = directive_answered c.args.tables.now c.args.line.now c.directive_there.result c.directive_there.ensures
