use Rattle.std.proofs.Common.{◌++◌, ◌∷◌, [], ◌∙◌, ap, append_assoc}
use Rattle.asm_expr.proofs.value.two.Goals as goal

pub returns : goal.returns
returns g c =
    c.in-Some.ensures.items ∙ ap (λ l. l ++ c.in-Some.right ∷ []) c.in-Some-pop.ensures.items
    ∙ append_assoc c.pop-2.new.self.items (c.in-Some-pop.left ∷ []) (c.in-Some.right ∷ [])
