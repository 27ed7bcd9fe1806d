use Rattle.std.proofs.Common.{suc}
use Rattle.asm_locals.specs.Labels.{label_ahead}
use Rattle.asm_locals.specs.Passes.{found}
use Rattle.asm_locals.proofs.TableLemmas.{ahead_named, ahead_table, found_forth}
use Rattle.asm_locals.proofs.passes.name_ahead.Goals as goal

pub returns-clause-named : goal.returns-clause-named
returns-clause-named c rest table =
    let s = c.args.statement.now in (
      ahead_table c.args.at s rest c.local_number-local.result c.begins_stretch-begins.result c.begin.new.self.table.items c.local_number-local.ensures
          c.begins_stretch-begins.ensures (c.begin.ensures.begun _ (c.add.ensures.noted (label_ahead (suc c.args.at) rest) table)),
      ahead_named c.args.at s rest c.name_label.new.label c.local_number-local.result c.name_what.new.what (found c.args.labels.now) c.in_ok-name_label.ensures
          c.local_number-local.ensures c.in_ok-name_what.ensures (found_forth c.args.labels.now (label_ahead (suc c.args.at) rest) c.requires table),
    )
