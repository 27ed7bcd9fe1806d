use Rattle.std.proofs.Common.{sym, ◌∙◌}
use Rattle.asm_lines.proofs.ScanLemmas.{token_is_the, lone_is_the}
use Rattle.asm_lines.proofs.scan.token_at.Goals as goal

pub returns-then-is_sign_due-clause-the : goal.returns-then-is_sign_due-clause-the
returns-then-is_sign_due-clause-the c = lone_is_the c.args.due c.args.rest.now (sym c.is_sign_due.ensures ∙ c.if-is_sign_due.true)

pub returns-clause-the : goal.returns-clause-the
returns-clause-the c =
    token_is_the c.args.due c.args.rest.now c.best_of.result c.requires (sym c.is_sign_due.ensures ∙ c.if-is_sign_due.false) c.best_of.ensures.value
