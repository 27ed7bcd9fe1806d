use Rattle.std.proofs.Common.{◌∙◌}
use Rattle.link_assign.specs.Shown.{shown_item}
use Rattle.link_assign.proofs.IndexLemmas.{best_found}
use Rattle.link_assign.proofs.index.best_of.Goals as goal

pub returns : goal.returns
returns c = λ offers h. c.best_known.ensures ∙ best_found c.args.index.now offers h (shown_item c.args.item.now)
