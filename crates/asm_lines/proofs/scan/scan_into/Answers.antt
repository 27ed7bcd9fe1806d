use Rattle.std.proofs.Common.{arith}
use Rattle.asm_lines.proofs.ScanLemmas.{at_end, at_nothing, at_token}
use Rattle.asm_lines.proofs.scan.scan_into.Goals as goal

pub returns-then-is_end-clause-tokens : goal.returns-then-is_end-clause-tokens
returns-then-is_end-clause-tokens c = λ e.
    at_end c.args.text.now c.tokens.tokens.items c.tokens.due c.tokens.place c.behind-rest.result.now c.run_len-blanks.result c.behind-front.result.now
    c.is_end.result c.tokens.invariant c.behind-rest.ensures c.run_len-blanks.ensures.run c.behind-front.ensures c.is_end.ensures c.if-is_end.true

pub returns-then-len-eq0-clause-none : goal.returns-then-len-eq0-clause-none
returns-then-len-eq0-clause-none c = λ e.
    at_nothing c.args.text.now c.tokens.tokens.items c.tokens.due c.tokens.place c.behind-rest.result.now c.run_len-blanks.result c.behind-front.result.now
    c.is_end.result c.tokens.invariant c.behind-rest.ensures c.run_len-blanks.ensures.run c.behind-front.ensures c.is_end.ensures c.if-is_end.false
    c.token_at-kind.result c.token_at-kind.ensures.the c.if-len-eq0.true

pub tokens-preserved : goal.tokens-preserved
tokens-preserved c =
    at_token c.args.text.now c.tokens.tokens.items c.tokens.due c.tokens.place c.behind-rest.result.now c.run_len-blanks.result c.behind-front.result.now
    c.is_end.result c.tokens.invariant c.behind-rest.ensures c.run_len-blanks.ensures.run c.behind-front.ensures c.is_end.ensures c.if-is_end.false
    c.token_at-kind.result c.token_at-kind.ensures.the c.begin.result.now c.due_behind-due.result c.push.new.self.items
    (omega (arith, c.if-len-eq0.false)) c.begin.ensures c.due_behind-due.ensures c.in_ok-push.ensures.items
