use Rattle.std.proofs.Common.{◌∙◌, sym}
use Rattle.link_model.specs.Members.{link_of}
use Rattle.link_shifts.proofs.JudgeLemmas.{area_met, area_passed}
use Rattle.link_shifts.proofs.judging.refusal_of_object.Goals as goal

pub returns-in-Some : goal.returns-in-Some
returns-in-Some c =
    let is = rw c.in_ok-number.ensures at c.in_ok-refusal.ensures in
    sym (sym (rw c.as_slice-area-items.ensures c.loop-k.invariant) ∙ area_met (link_of c.args.image.now.linked.now) c.args.image.now.placement.now c.args.named.now c.args.object c.loop-k.k c.as_slice-area-items.result.now
    c.area-item.result c.loop-k-test.true c.area-item.is c.in_ok-refusal.field-0 c.in-Some.refusal is c.in-Some.is)

pub loop-k-preserved : goal.loop-k-preserved
loop-k-preserved c =
    let is = rw c.in_ok-number.ensures at c.in_ok-refusal.ensures in
    let passed = rw c.as_slice-area-items.ensures at (area_passed (link_of c.args.image.now.linked.now) c.args.image.now.placement.now c.args.named.now c.args.object c.loop-k.k c.as_slice-area-items.result.now
    c.area-item.result c.loop-k-test.true c.area-item.is c.in_ok-refusal.field-0 is c.in_default.not-Some) in
    sym passed ∙ c.loop-k.invariant
