use Rattle.std.proofs.Common.{◌∙◌, ap}
use Rattle.asm_model.specs.Meaning.{Known}
use Rattle.asm_expr.specs.Seeing.{seen_names}
use Rattle.asm_expr.proofs.SlotLemmas.{acted, on_ok}
use Rattle.asm_expr.proofs.value.act_binary.Goals as goal

pub returns : goal.returns
returns c =
    on_ok c.push-2.result
    (λ e. acted (seen_names c.args.seen.now) c.args.op c.args.stack.now.items c.two.new.stack.items c.push-2.new.items.items c.in-Some.left c.in-Some.right
    c.slot_of.result c.in-Some.ensures (c.slot_of.ensures ∙ ap Known c.in_ok-value.ensures) e)
    c.push-2.ensures.ok
