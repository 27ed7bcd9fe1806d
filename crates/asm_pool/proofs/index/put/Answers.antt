use Rattle.std.proofs.Common.{◌∙◌, ap, cond, Some, Bool}
use Rattle.asm_pool.specs.Index.{number_in}
use Rattle.asm_pool.proofs.LiteralLemmas.{tied}
use Rattle.asm_pool.proofs.index.put.Goals as goal

pub returns-clause-ok : goal.returns-clause-ok
returns-clause-ok c =
    λ q. c.in_ok-insert.ensures.updates.0 q ∙ ap (λ (b : Bool). cond b (Some c.args.number) (number_in c.args.index.now q)) (tied c.args.literal q)
