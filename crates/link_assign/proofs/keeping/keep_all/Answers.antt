use Rattle.std.proofs.Common.{sym, ◌∙◌, ◌++◌, map, append-nil}
use Rattle.std.specs.List.{filter_map}
use Rattle.std.proofs.lemmas.List.{at_drop_all}
use Rattle.std.proofs.lemmas.Result.{err_from_is_err_and}
use Rattle.place_model.specs.Assignment.{best, found, kept_by}
use Rattle.link_assign.specs.Keeping.{report_name}
use Rattle.link_assign.specs.Shown.{kept_in, shown_item, shown_offer}
use Rattle.link_assign.proofs.KeepingLemmas.{judged_last, judged_more, kept_on}
use Rattle.link_assign.proofs.keeping.keep_all.Goals as goal

pub returns-in_err-keep-clause-judged : goal.returns-in_err-keep-clause-judged
returns-in_err-keep-clause-judged c =
    let offers = map shown_offer c.args.offers.now in
    let p = err_from_is_err_and c.from_residual-in_err-keep.result c.from_residual-in_err-keep.ensures.1 in
    rw (p.1, p.2)
    (judged_last c.in_err-keep.field-0.0 (report_name c.args.objects.now) offers c.args.items.now c.loop-item.item-index c.item-item.result _ c.loop-item-test.true c.item-item.is
    (c.in_err-keep.ensures.judged offers c.in_ok-index.ensures) c.loop-item.invariant.refusal)

pub loop-item-preserved : goal.loop-item-preserved
loop-item-preserved c =
    let offers = map shown_offer c.args.offers.now in
    let h = c.in_ok-index.ensures in
    record {
      refusal = judged_more (report_name c.args.objects.now) offers c.args.items.now c.loop-item.item-index c.item-item.result _ c.loop-item-test.true c.item-item.is (c.in_ok-keep.ensures.judged offers h) c.loop-item.invariant.refusal;
      kept = λ r.
          kept_on (λ i. kept_by r i (found (best offers i))) c.args.items.now c.loop-item.item-index c.item-item.result (kept_in r c.loop-item.kept.items) (kept_in r c.keep.new.kept.items) _ c.loop-item-test.true c.item-item.is
          (c.in_ok-keep.ensures.kept offers h r) (c.loop-item.invariant.kept r);
    }

pub returns-clause-kept : goal.returns-clause-kept
returns-clause-kept c = record {
  each = λ r.
      sym (append-nil (kept_in r c.loop-item.kept.items))
      ∙ sym (at_drop_all (λ rest. kept_in r c.loop-item.kept.items ++ filter_map (λ i. kept_by r i (found (best (map shown_offer c.args.offers.now) i))) (map shown_item rest)) c.args.items.now c.loop-item.item-index c.loop-item-test.false)
      ∙ c.loop-item.invariant.kept r;
}
