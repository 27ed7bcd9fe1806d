use Rattle.std.proofs.Common.{◌∙◌, sym}
use Rattle.asm_variables.specs.Maps.{has_name}
use Rattle.asm_expand.proofs.DefiningLemmas.{twice_here, once_here, seen_more}
use Rattle.asm_expand.proofs.definitions.has_twice.Goals as goal

pub returns-then-repeated : goal.returns-then-repeated
returns-then-repeated c =
    let p = c.index-parameters-i.result in
    let n = rw c.if-repeated.true at c.in_ok-repeated.ensures in
    twice_here c.args.parameters.now c.loop-i.i p c.loop-i-test.true c.loop-i.auto.i c.index-parameters-i.is (sym (c.loop-i.invariant.1 p.name) ∙ n)

pub loop-i-preserved : goal.loop-i-preserved
loop-i-preserved c =
    let p = c.index-parameters-i.result in
    let n = rw c.if-repeated.false at c.in_ok-repeated.ensures in (
      once_here c.args.parameters.now c.loop-i.i p c.loop-i-test.true c.loop-i.auto.i c.index-parameters-i.is
          (sym (c.loop-i.invariant.1 p.name) ∙ n.0) c.loop-i.invariant.0,
      λ q.
          n.1 q
          ∙ seen_more c.args.parameters.now c.loop-i.i p q (has_name c.loop-i.seen q) c.loop-i-test.true c.loop-i.auto.i c.index-parameters-i.is
          (c.loop-i.invariant.1 q),
    )
