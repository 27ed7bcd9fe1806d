use Rattle.std.proofs.Common.{sym, ◌∙◌}
use Rattle.std.specs.List.{list_any}
use Rattle.std.proofs.Math.Bool.{or-false}
use Rattle.asm_model.specs.Exprs.{is_large}
use Rattle.asm_checks.proofs.large.in_expression.Goals as goal

pub returns : goal.returns
returns c = c.mentions_large.ensures ∙ sym (or-false (list_any is_large c.args.e.now.items))
