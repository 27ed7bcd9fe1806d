use Rattle.std.proofs.Common.{None, refl, subst}
use Rattle.asm_model.specs.Tokens.{NoTokens}
use Rattle.asm_reading.specs.Says.{ReadsBy}
use Rattle.asm_reading.proofs.SayingLemmas.{line_said}
use Rattle.asm_reading.proofs.says.said_in.Goals as goal

pub returns-then-not-found : goal.returns-then-not-found
returns-then-not-found c = (None, subst NoTokens c.as_slice-text.ensures (c.in_ok-found.ensures.none c.if-not-found.true), refl)

pub returns : goal.returns
returns c =
    line_said (ReadsBy c.args.thumb) c.args.line.now c.as_slice-text.result.now c.scan_into.new.tokens.items c.as_slice.result.now c.as_slice-2.result.now
    c.said_by-said.result c.mark_long.new.said c.as_slice-text.ensures (c.in_ok-found.ensures.tokens c.if-not-found.false) c.as_slice.ensures.value
    c.as_slice-2.ensures.value c.said_by-said.ensures c.mark_long.ensures
