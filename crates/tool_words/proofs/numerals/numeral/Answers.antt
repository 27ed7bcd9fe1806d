use Rattle.std.proofs.Common.{sym, ◌∙◌}
use Rattle.tool_words.proofs.NumeralLemmas.{number_read, number_unread}
use Rattle.tool_words.proofs.numerals.numeral.Goals as goal

pub returns-in-Ok : goal.returns-in-Ok
returns-in-Ok c = number_read c.args.base c.in-Ok.number c.args.digits.now (sym c.has_plus.ensures ∙ c.if-has_plus.false) c.in-Ok.ensures.value

pub returns-in-Err : goal.returns-in-Err
returns-in-Err c = number_unread c.args.base c.args.digits.now (sym c.has_plus.ensures ∙ c.if-has_plus.false) c.in-Err.ensures.value
