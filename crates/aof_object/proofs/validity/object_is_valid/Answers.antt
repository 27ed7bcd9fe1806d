use Rattle.std.proofs.Common.{◌∙◌, sym}
use Rattle.std.proofs.lemmas.Result.{IfOk-weaker}
use Rattle.aof_object.proofs.ValidLaw.{valid_law}
use Rattle.aof_object.proofs.validity.object_is_valid.Goals as goal

pub returns : goal.returns
returns c = IfOk-weaker c.passes.result _ _ (λ b e. (λ t. (valid_law c.args.o.now).0 (sym e ∙ t), λ v. e ∙ (valid_law c.args.o.now).1 v)) c.passes.ensures
