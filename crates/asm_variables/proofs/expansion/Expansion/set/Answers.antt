use Rattle.std.proofs.Common.{sym, ◌∙◌}
use Rattle.std.proofs.lemmas.Result.{on_ok_weaker}
use Rattle.asm_variables.proofs.StateLemmas.{local_set, global_set}
use Rattle.asm_variables.proofs.expansion.Expansion.set.Goals as goal

pub returns-then-has_local-clause-state : goal.returns-then-has_local-clause-state
returns-then-has_local-clause-state c =
    on_ok_weaker c.replace.result
    (λ h. local_set c.args.self.now c.replace.new.map c.args.name c.args.value (sym c.has_local.ensures ∙ c.if-has_local.true) h)
    c.replace.ensures

pub returns-clause-state : goal.returns-clause-state
returns-clause-state c =
    on_ok_weaker c.replace-2.result
    (λ h. global_set c.args.self.now c.replace-2.new.map c.args.name c.args.value (sym c.has_local.ensures ∙ c.if-has_local.false) h)
    c.replace-2.ensures
