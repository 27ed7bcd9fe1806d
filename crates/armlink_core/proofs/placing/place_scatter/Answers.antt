use Rattle.place_model.specs.declared.scatter.Kind.TheVariants as kind
use Rattle.armlink_core.proofs.PlaceLemmas.{small_if}
use Rattle.armlink_core.proofs.ValidLemmas.{scatter_small}
use Rattle.armlink_core.proofs.placing.place_scatter.Goals as goal

pub place_link-requires-clause-small : goal.place_link-requires-clause-small
place_link-requires-clause-small c = scatter_small c.in-Ok.scatter c.in-Ok.ensures.found.1

pub returns-in-Ok-clause-small : goal.returns-in-Ok-clause-small
returns-in-Ok-clause-small c =
    small_if (kind.Scatter c.in-Ok.scatter) c.place_link.result (scatter_small c.in-Ok.scatter c.in-Ok.ensures.found.1) c.place_link.ensures.kind
