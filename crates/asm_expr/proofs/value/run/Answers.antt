use Rattle.std.proofs.Common.{refl, []}
use Rattle.asm_expr.specs.Evaluating.{operands_of, run}
use Rattle.asm_expr.specs.Seeing.{seen_names}
use Rattle.asm_expr.proofs.EvalLemmas.{run_step, run_end}
use Rattle.asm_expr.proofs.value.run.Goals as goal

pub items-init : goal.items-init
items-init c = rw c.new-stack.ensures.items refl

pub items-preserved : goal.items-preserved
items-preserved c =
    let names = seen_names c.args.seen.now in
    run_step names c.args.items.now c.items.item-index c.item-item.result (operands_of c.items.stack.items) (operands_of c.act.new.stack.items)
    (run names c.args.items.now []) c.items-test.true c.item-item.is c.in_ok-act.ensures c.items.invariant

pub returns : goal.returns
returns c =
    let names = seen_names c.args.seen.now in
    run_end names c.args.items.now c.items.item-index (operands_of c.items.stack.items) (run names c.args.items.now []) c.items-test.false c.items.invariant
