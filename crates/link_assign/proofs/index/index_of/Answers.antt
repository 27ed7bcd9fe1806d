use Rattle.std.proofs.Common.{sym, ◌∙◌, map}
use Rattle.std.specs.List.{filter}
use Rattle.std.proofs.lemmas.List.{at_drop_all}
use Rattle.link_assign.specs.Index.{in_index, is_keyed}
use Rattle.link_assign.specs.Shown.{shown_offer}
use Rattle.link_assign.proofs.FindingLemmas.{after}
use Rattle.link_assign.proofs.index.index_of.Goals as goal

pub returns : goal.returns
returns c = λ home d.
    sym (at_drop_all (λ rest. after (in_index c.loop-offer.index home d) (filter (is_keyed home d) (map shown_offer rest))) c.args.offers.now c.loop-offer.offer-index c.loop-offer-test.false)
    ∙ c.loop-offer.invariant home d
