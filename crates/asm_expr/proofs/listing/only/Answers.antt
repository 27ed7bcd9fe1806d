use Rattle.std.proofs.Common.{◌++◌, ◌∷◌, [], ◌∙◌, ap}
use Rattle.asm_expr.proofs.listing.only.Goals as goal

pub returns : goal.returns
returns g c = c.from_vec.ensures ∙ c.in_ok-push.ensures.items ∙ ap (λ l. l ++ c.args.item ∷ []) c.in_ok-items.ensures.items
