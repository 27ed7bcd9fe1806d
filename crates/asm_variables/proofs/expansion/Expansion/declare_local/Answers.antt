use Rattle.std.proofs.lemmas.Result.{on_ok_weaker}
use Rattle.asm_variables.proofs.StateLemmas.{local_declared}
use Rattle.asm_variables.proofs.expansion.Expansion.declare_local.Goals as goal

pub returns-clause-state : goal.returns-clause-state
returns-clause-state c =
    on_ok_weaker c.put.result (λ h. local_declared c.args.self.now c.put.new.map c.args.name c.args.value c.requires h) c.put.ensures
