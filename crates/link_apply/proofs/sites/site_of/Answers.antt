use Rattle.link_apply.proofs.SiteLemmas.{are_low}
use Rattle.link_apply.proofs.sites.site_of.Goals as goal

pub starts_of-requires-clause-bases : goal.starts_of-requires-clause-bases
starts_of-requires-clause-bases c = are_low c.args.known.now c.requires.known
