use Rattle.std.proofs.Common.{◌∙◌, sym}
use Rattle.link_model.specs.Members.{link_of}
use Rattle.link_shifts.proofs.JudgeLemmas.{object_met, object_passed}
use Rattle.link_shifts.proofs.judging.refusal_of.Goals as goal

pub returns-in-Some : goal.returns-in-Some
returns-in-Some c =
    sym (sym (rw c.as_slice-named-items.ensures c.loop-i.invariant) ∙ object_met (link_of c.args.image.now.linked.now) c.args.image.now.placement.now c.loop-i.i c.as_slice-named-items.result.now
    c.named-item.result c.loop-i-test.true c.named-item.is c.in_ok-number.number c.in_ok-number.ensures c.in_ok-refusal.field-0 c.in-Some.refusal c.in_ok-refusal.ensures c.in-Some.is)

pub loop-i-preserved : goal.loop-i-preserved
loop-i-preserved c =
    let passed = rw c.as_slice-named-items.ensures at (object_passed (link_of c.args.image.now.linked.now) c.args.image.now.placement.now c.loop-i.i c.as_slice-named-items.result.now
    c.named-item.result c.loop-i-test.true c.named-item.is c.in_ok-number.number c.in_ok-number.ensures c.in_ok-refusal.field-0 c.in_ok-refusal.ensures c.in_default.not-Some) in
    sym passed ∙ c.loop-i.invariant
