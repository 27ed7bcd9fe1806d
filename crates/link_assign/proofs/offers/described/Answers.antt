use Rattle.std.proofs.Common.{◌≡◌, ◌∷◌, ◌++◌, ◌+◌, ◌∙◌, ap, sym, drop, map, length, arith}
use Rattle.std.proofs.lemmas.Grind.{common_steps}
use Rattle.place_model.specs.Assignment.{offers_from}
use Rattle.link_assign.specs.Shown.{shown_offer}
use Rattle.link_assign.proofs.KeepingLemmas.{count_more, offers_more, regions_in}
use Rattle.link_assign.proofs.offers.described.Goals as goal

pub loop-load-preserved : goal.loop-load-preserved
loop-load-preserved c =
    let l = c.load-item.result in
    let rest = drop (c.loop-load.load-index + 1) c.args.loads.now in
    let here : drop c.loop-load.load-index c.args.loads.now ≡ l ∷ rest = grind (arith, common_steps) in
    let behind : c.in_ok-next.next ≡ c.loop-load.count + length l.regions = c.in_ok-next.ensures ∙ ap (λ rs. c.loop-load.count + length rs) c.as_slice-regions.ensures in
    record {
      offers = offers_more c.loop-load.count c.in_ok-next.next l rest (map shown_offer c.loop-load.offers.items) (map shown_offer c.push_regions.new.offers.items) _ behind (c.in_ok-push_regions.ensures ∙ ap (λ rs. map shown_offer c.loop-load.offers.items ++ offers_from c.loop-load.count rs) c.as_slice-regions.ensures)
          (ap (λ ls. map shown_offer c.loop-load.offers.items ++ offers_from c.loop-load.count (regions_in ls)) (sym here) ∙ c.loop-load.invariant.offers);
      count = count_more c.loop-load.count c.in_ok-next.next _ l rest behind (ap (λ ls. c.loop-load.count + length (regions_in ls)) (sym here) ∙ c.loop-load.invariant.count);
    }
