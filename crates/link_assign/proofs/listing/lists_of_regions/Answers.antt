use Rattle.link_assign.proofs.KeepingLemmas.{lists_more}
use Rattle.link_assign.proofs.listing.lists_of_regions.Goals as goal

pub loop-region-preserved : goal.loop-region-preserved
loop-region-preserved c =
    lists_more c.args.kept.now c.loop-region.region c.args.regions c.loop-region.lists.items c.push.new.self.items c.in_ok-list_of.field-0 _ c.loop-region-test.true c.in_ok-list_of.ensures
    c.in_ok-push.ensures.items c.loop-region.invariant
