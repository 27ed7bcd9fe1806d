use Rattle.std.proofs.Common.{◌≡◌, sym, ◌∙◌, arith, reverse, List, vec_len, refl}
use Rattle.std.proofs.lemmas.Bool.{eqb-true, eqb-false}
use Rattle.asm_model.specs.declared.exprs.ExprItem.{ExprItem}
use Rattle.asm_expr.specs.declared.parser.Held.{Held}
use Rattle.asm_expr.specs.declared.parser.Stage.{Stage}
use Rattle.asm_expr.specs.declared.parser.Stage.TheVariants as stage
use Rattle.asm_expr.specs.Parsing.{finished, finished_at, settled, emptied}
use Rattle.asm_expr.proofs.StackLemmas.{emptied_some, emptied_none}
use Rattle.asm_expr.proofs.parser.Parser.finish.Goals as goal

at_operator : (due : Stage) (items : List ExprItem) (stack : List Held) → due ≡ stage.Operator → finished_at due items stack ≡ emptied (settled 6 items stack)
at_operator due items stack e = rw e refl

pub returns-then-is_empty : goal.returns-then-is_empty
unfolding finished
returns-then-is_empty c =
    let stack = c.settle.new.stack in
    let none : vec_len stack ≡ 0 = eqb-true (vec_len stack) 0 (sym c.is_empty.ensures ∙ c.if-is_empty.true) in
    at_operator c.args.self.due c.args.self.items.items (reverse c.args.self.stack.items) c.in-Operator.is
    ∙ emptied_some c.settle.new.items.items stack.items (settled 6 c.args.self.items.items (reverse c.args.self.stack.items)) c.in_ok-settle.ensures
    (omega (arith, stack.ok.0))

pub returns : goal.returns
unfolding finished
returns c =
    let stack = c.settle.new.stack in
    let some = eqb-false (vec_len stack) 0 (sym c.is_empty.ensures ∙ c.if-is_empty.false) in
    at_operator c.args.self.due c.args.self.items.items (reverse c.args.self.stack.items) c.in-Operator.is
    ∙ emptied_none c.settle.new.items.items stack.items (settled 6 c.args.self.items.items (reverse c.args.self.stack.items)) c.in_ok-settle.ensures
    (omega (arith, stack.ok.0, some))
