use Rattle.std.proofs.Common.{◌∷◌, List, ℕ, sym, ap, ◌∙◌}
use Rattle.armsd_core.specs.Commands.{by_words}
use Rattle.armsd_core.proofs.LineLemmas.{too_many, words_last}
use Rattle.armsd_core.proofs.line.with_more.Goals as goal

pub returns-in-None : goal.returns-in-None
returns-in-None c =
    c.with_two.ensures ∙ ap (λ (ws : List (List ℕ)). by_words (c.args.name.now ∷ c.args.a.now ∷ ws)) (sym (words_last c.args.rest.now (sym c.in-None.ensures)))

pub returns-in-Some : goal.returns-in-Some
returns-in-Some c = sym (too_many c.args.name.now c.args.a.now c.args.rest.now c.in-Some.field-0 (sym c.in-Some.ensures))
