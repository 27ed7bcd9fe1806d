use Rattle.std.proofs.Common.{◌-◌, ◌^◌, ◌||◌, sym, ap, ◌∙◌}
use Rattle.asm_model.specs.Extents.{is_immediate, is_moved}
use Rattle.asm_laying.proofs.numbers.is_moved.Goals as goal

pub returns-then-is_immediate : goal.returns-then-is_immediate
unfolding is_moved
returns-then-is_immediate c = ap (λ b. b || is_immediate (2 ^ 32 - 1 - c.args.number)) (sym c.if-is_immediate.true ∙ c.is_immediate.ensures)

pub returns : goal.returns
unfolding is_moved
returns c =
    c.is_immediate-2.ensures ∙ ap (λ b. b || is_immediate (2 ^ 32 - 1 - c.args.number)) (sym c.if-is_immediate.false ∙ c.is_immediate.ensures)
