use Rattle.std.proofs.Common.{◌∙◌, ap}
use Rattle.asm_model.specs.Meaning.{Known}
use Rattle.asm_expr.proofs.SlotLemmas.{acted_on_top, on_ok}
use Rattle.asm_expr.proofs.value.act_unary.Goals as goal

pub returns : goal.returns
returns c =
    on_ok c.push-2.result
    (λ e. acted_on_top c.args.op c.args.stack.now.items c.pop.new.self.items c.push-2.new.items.items c.pop.result c.in-Some.top c.slot_of.result
    c.pop.ensures.items c.in-Some.is (c.slot_of.ensures ∙ ap Known c.in_ok-value.ensures) e)
    c.push-2.ensures.ok
