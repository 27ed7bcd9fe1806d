use Rattle.std.proofs.Common.{subst}
use Rattle.chunk_file.specs.Reading.{Gives}
use Rattle.link_model.specs.Options.{refused_or}
use Rattle.link_apply.proofs.SiteLemmas.{piece_same, refusals_same}
use Rattle.link_apply.proofs.placing.piece_in.Goals as goal

pub returns : goal.returns
returns c =
    let known = c.args.known.now in
    let site = c.in_ok-site.site in
    let first = refusals_same known site c.args.object.now c.args.placed c.args.area.now c.in_ok-site.ensures.placed c.in_ok-site.ensures.area in
    let piece = piece_same known site c.args.placed c.args.area.now c.in_ok-site.ensures.placed c.in_ok-site.ensures.area in
    subst (λ x. Gives c.piece_of.result x) (λ i. refused_or (first i) (piece i)) c.piece_of.ensures
