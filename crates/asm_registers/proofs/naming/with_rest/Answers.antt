use Rattle.std.proofs.Common.{rules, ◌≡◌, ◌∙◌}
use Rattle.asm_model.specs.declared.operands.Register.TheVariants.{Named}
use Rattle.asm_registers.proofs.ToldLemmas.{told_before}
use Rattle.asm_registers.proofs.naming.with_rest.Goals as goal

pub returns-in-Named : goal.returns-in-Named
returns-in-Named c = λ rs is.
    let here : c.args.register.now ≡ Named c.in-Named.name = search rules in
    rw here (c.first_told.ensures ∙ told_before c.args.scope.now (Named c.in-Named.name) rs c.name_kind.result c.args.rest
    (rw c.as_text.ensures at c.name_kind.ensures) is)
