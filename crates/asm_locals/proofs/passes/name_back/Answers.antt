use Rattle.std.proofs.Common.{◌∷◌, ◌∙◌, ap}
use Rattle.asm_locals.specs.Labels.{label_behind}
use Rattle.asm_locals.specs.Naming.{named_what}
use Rattle.asm_locals.specs.Passes.{IsTable}
use Rattle.asm_locals.proofs.TableLemmas.{behind_table, found_back}
use Rattle.asm_locals.proofs.passes.name_back.Goals as goal

pub returns-clause-named : goal.returns-clause-named
returns-clause-named c before at table =
    let s = c.args.statement.now in
    let t : IsTable c.add.new.self.table.items (label_behind (s ∷ before)) =
    behind_table before s c.local_number.result c.begins_stretch.result c.args.at c.add.new.self.table.items c.local_number.ensures c.begins_stretch.ensures at
    (c.add.ensures.noted _ (c.begin.ensures.begun (label_behind before) table)) in (
      t,
      ap (λ w. record s { what = w })
          (c.in_ok-name_what.ensures
          ∙ ap (λ f. named_what f s.what) (found_back c.add.new.self (label_behind (s ∷ before)) (c.add.ensures.way ∙ c.begin.ensures.way ∙ c.requires) t)),
    )
