use Rattle.asm_units.proofs.statements.units.Goals as goal

pub returns-in-Directive : goal.returns-in-Directive
returns-in-Directive c = rw c.in-Directive.is c.directive.ensures
