use Rattle.std.proofs.Common.{ℕ, List, Option, Some, length, set, ap, ◌∙◌, arith}
use Rattle.arm7_bus.proofs.TableLemmas.{opened_length, opened_set}
use Rattle.arm7_bus.proofs.table.Table.set.Goals as goal

pub returns : goal.returns
returns c =
    let e = c.start_of-start.ensures in
    let size = opened_length c.start_of-start.new.starts.items c.start_of-start.new.entries.items e.table.within in
    let same = e.same ∙ c.self.view_is in
    let count = ap length same in
    opened_set c.start_of-start.new.starts.items c.start_of-start.new.entries.items _ c.args.page c.start_of-start.result c.args.frame e.table (omega arith) e.start e.made
    ∙ ap (λ (xs : List (Option ℕ)). set xs c.args.page (Some c.args.frame)) same
