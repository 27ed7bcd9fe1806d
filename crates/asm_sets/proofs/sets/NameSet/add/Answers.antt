use Rattle.std.proofs.Common.{ℕ, List, ap, ◌∙◌}
use Rattle.std.specs.List.{list_any}
use Rattle.asm_model.specs.Forms.{same}
use Rattle.asm_sets.proofs.SetLemmas.{added, with_one}
use Rattle.asm_sets.proofs.sets.NameSet.add.Goals as goal

pub returns-clause-more : goal.returns-clause-more
returns-clause-more c =
    rw (← c.self.view_is) (added c.self.inside.names.keys c.insert.new.self.keys c.args.name.now c.in_ok-name.name c.in_ok-name.ensures
    c.in_ok-insert.ensures.keys)

pub returns-clause-have : goal.returns-clause-have
returns-clause-have c = λ q.
    rw (← c.self.view_is)
    (ap (λ (ns : List (List ℕ)). list_any (same q) ns)
    (added c.self.inside.names.keys c.insert.new.self.keys c.args.name.now c.in_ok-name.name c.in_ok-name.ensures c.in_ok-insert.ensures.keys)
    ∙ with_one c.args.name.now c.self.inside.names.keys q)
