use Rattle.std.proofs.Common.{◌∙◌}
use Rattle.link_report.specs.Keys.{has_key, same_key}
use Rattle.link_report.proofs.SelectionLemmas.{cond_or}
use Rattle.link_report.proofs.selections.add.Goals as goal

pub returns : goal.returns
returns c = λ q. c.in_ok-insert.ensures q ∙ cond_or (same_key c.args.key q) (has_key c.args.keys.now q)
