use Rattle.std.proofs.Common.{rules}
use Rattle.std.proofs.lemmas.List.Sorted.{answers_always}
use Rattle.link_report.proofs.OrderingLemmas.{below_ranks, by_value_from_sort, is_below}
use Rattle.link_report.proofs.symbols.put_in_order.Goals as goal

pub returns : goal.returns
returns c =
    let answers = answers_always _ _ _ (λ f a r next called. search rules) in
    by_value_from_sort _ _ (c.in_ok-sort_by.ensures.sorted is_below below_ranks answers) (c.sort_by.ensures.stable is_below below_ranks answers)
