use Rattle.std.proofs.Common.{◌∙◌}
use Rattle.link_values.specs.Values.{home}
use Rattle.link_apply.proofs.DetourLemmas.{veneers_same}
use Rattle.link_apply.proofs.detours.veneer_at.Goals as goal

pub returns : goal.returns
returns c =
    c.find_veneer.ensures
    ∙ veneers_same c.args.known.now.placement.now c.args.known.now.veneers c.args.region (home c.args.target.place) c.args.target.thumb c.requires.veneers
