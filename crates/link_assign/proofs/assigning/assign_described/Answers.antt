use Rattle.std.proofs.Common.{ap, ◌∙◌, length}
use Rattle.place_model.specs.Assignment.{offers_from}
use Rattle.link_assign.proofs.KeepingLemmas.{regions_in, same_assignment}
use Rattle.link_assign.proofs.assigning.assign_described.Goals as goal

pub returns : goal.returns
returns c =
    same_assignment c.assign_by.result c.args.objects.now _ _ _ _ (c.in_ok-offers.ensures.offers ∙ ap (λ ls. offers_from 0 (regions_in ls)) c.as_slice.ensures)
    (c.in_ok-offers.ensures.regions ∙ ap (λ ls. length (regions_in ls)) c.as_slice.ensures) c.assign_by.ensures
