use Rattle.link_symbols.proofs.ShownLemmas.{told_is_shown}
use Rattle.link_symbols.proofs.tables.is_shown.Goals as goal

pub returns : goal.returns
returns c = told_is_shown c.args.linked.now c.args.placement.now c.args.source.now c.requires.objects c.requires.values c.requires.bases
