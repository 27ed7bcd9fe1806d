use Rattle.std.proofs.Common.{◌+◌, ◌∙◌, sym, ap, arith, drop}
use Rattle.std.proofs.lemmas.List.Sums.{sum_by-drop_more}
use Rattle.link_place.specs.declared.layouts.Load.{Load}
use Rattle.link_place.proofs.PartLemmas.{drop_item}
use Rattle.link_place.proofs.CheckLemmas.{told_here, told_later, none_left}
use Rattle.link_place.proofs.faults.first_overfull.Goals as goal

pub returns-in-Some : goal.returns-in-Some
returns-in-Some c =
    let next = drop_item c.args.loads.now c.loop-load.load-index c.load-item.result c.loop-load-test.true c.load-item.is in
    let here = rw c.split_at.ensures.front at c.in_ok-refusal.ensures in
    told_here c.load-item.result (drop (c.loop-load.load-index + 1) c.args.loads.now) c.loop-load.rest.now c.in-Some.refusal _ (rw next at c.loop-load.invariant.so_far) (sym c.in-Some.is ∙ here)

pub loop-load-preserved : goal.loop-load-preserved
loop-load-preserved c =
    let next = drop_item c.args.loads.now c.loop-load.load-index c.load-item.result c.loop-load-test.true c.load-item.is in
    let here = rw c.split_at.ensures.front at c.in_ok-refusal.ensures in
    let none = none_left c.in_ok-refusal.field-0 c.in_default.not-Some in
    let counts = sum_by-drop_more (λ (d : Load). d.count) c.args.loads.now c.loop-load.load-index c.load-item.result c.loop-load-test.true in
    let same = ap (λ (d : Load). d.count) c.load-item.is in
    record {
      so_far = rw c.split_at.ensures.back (told_later c.load-item.result (drop (c.loop-load.load-index + 1) c.args.loads.now) c.loop-load.rest.now _ (rw next at c.loop-load.invariant.so_far) (sym none ∙ here));
      counts = omega (arith, counts, same, c.loop-load.invariant.counts, c.split_at.ensures.back_len);
    }
