use Rattle.std.proofs.Common.{sym, ◌∙◌}
use Rattle.asm_expand.proofs.DollarLemmas.{without_dollar_line}
use Rattle.asm_expand.proofs.dollars.has_dollar.Goals as goal

pub returns-clause-stays : goal.returns-clause-stays
returns-clause-stays c = λ none s. without_dollar_line s c.args.text.now (sym c.contains.ensures.value ∙ none)
