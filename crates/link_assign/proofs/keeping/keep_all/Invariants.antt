use Rattle.std.proofs.Common.{◌≡◌, ◌++◌, ℕ, map, drop}
use Rattle.std.specs.List.{filter_map}
use Rattle.place_model.specs.Assignment.{assignment_refusal, best, found, kept_by}
use Rattle.link_assign.specs.Keeping.{report_name}
use Rattle.link_assign.specs.Shown.{kept_in, shown_item, shown_offer}
use Rattle.link_assign.proofs.keeping.keep_all.Given as goal

abbrev pub invariant-loop-item : goal.invariant-loop-item
invariant-loop-item l = record {
  refusal : assignment_refusal (report_name l.objects) (map shown_offer l.offers) (map shown_item (drop l.item-index l.items)) ≡ assignment_refusal (report_name l.objects) (map shown_offer l.offers) (map shown_item l.items);
  kept : (r : ℕ) → kept_in r l.kept.items ++ filter_map (λ i. kept_by r i (found (best (map shown_offer l.offers) i))) (map shown_item (drop l.item-index l.items)) ≡ filter_map (λ i. kept_by r i (found (best (map shown_offer l.offers) i))) (map shown_item l.items);
}
