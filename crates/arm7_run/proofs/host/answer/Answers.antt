use Rattle.std.proofs.Common.{sym, ◌∙◌}
use Rattle.arm7_run.proofs.TurnLemmas.{turns_byte, turns_string}
use Rattle.arm7_run.proofs.host.answer.Goals as goal

pub returns-in-Host-eq0-clause-turns : goal.returns-in-Host-eq0-clause-turns
returns-in-Host-eq0-clause-turns g c =
    turns_byte c.print_byte.result c.args.event c.in-Host-eq0.field-0 c.register.result c.args.at c.args.machine.now.state _ _ _ _ c.in-Host-eq0.is (sym c.in-Host-eq0.field-0-is ∙ c.in-Host-eq0.field-0-test) c.register.ensures c.print_byte.ensures.prints

pub returns-in-Host-eq2-clause-turns : goal.returns-in-Host-eq2-clause-turns
returns-in-Host-eq2-clause-turns g c =
    turns_string c.print_string.result c.args.event c.in-Host-eq2.field-0 c.register-in-Host-eq2.result c.args.at c.args.machine.now.state _ _ _ _ c.in-Host-eq2.is (sym c.in-Host-eq2.field-0-is ∙ c.in-Host-eq2.field-0-test) c.register-in-Host-eq2.ensures c.print_string.ensures.prints
