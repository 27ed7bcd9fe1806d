use Rattle.std.proofs.Common.{◌<◌, ◌∙◌, sym, arith, length}
use Rattle.std.specs.Prelude.{vec_len}
use Rattle.asm_expr.proofs.StackLemmas.{pops_top}
use Rattle.asm_expr.proofs.parser.pop_tight.Goals as goal

pub returns : goal.returns
returns c =
    let stack = c.args.stack.now in
    let top = c.in-Some.top.now in
    let lent = c.deref.ensures.len in
    let same = c.deref.ensures.value in
    let some : 0 < length c.deref.result.now = c.in-Some.ensures.item.3.0 in
    let last = c.in-Some.ensures.item.3.1 top in
    let filled : 0 < vec_len stack = omega arith in
    let popped = c.pop.ensures.value top filled in
    pops_top c.args.limit stack.items c.pop.new.self.items c.pop.result top c.pop.ensures.items (cc) (sym c.is_tight.ensures ∙ c.if-not-is_tight.false)
