use Rattle.std.proofs.Common.{rules, ◌≡◌, replicate, is_ok, ap}
use Rattle.arm7_bus.proofs.TableLemmas.{entries_made, table_unused}
use Rattle.arm7_bus.proofs.table.Table.make.Goals as goal

pub returns : goal.returns
returns c =
    let starts : c.resize.new.self.items ≡ replicate c.args.parts 0 = search rules in
    let entries = entries_made c.in_ok-entries.entries.items c.resize-2.new.self.items (is_ok c.resize-2.result) _ c.resize-2.ensures.items (ap is_ok c.in_ok-resize-2.was) c.in_ok-entries.ensures.items c.in_ok-entries.ensures.len in
    table_unused c.resize.new.self.items c.resize-2.new.self.items c.args.parts starts entries
