use Rattle.std.proofs.Common.{◌≡◌, ℕ, is_ok, length, get_or, ap, sym, subst, arith}
use Rattle.arm7_bus.proofs.TableLemmas.{entries_more, opened_more, room_left, table_larger, table_more}
use Rattle.arm7_bus.proofs.table.start_of.Goals as goal

pub unwrap-requires : goal.unwrap-requires
unwrap-requires c =
    let absent = sym (subst (λ (x : ℕ). x ≡ get_or c.args.starts.now.items c.args.part x) c.if-start-ne0.false c.index-start.ensures) in
    let left = room_left c.args.starts.now.items c.args.entries.now.items _ c.args.part c.requires.table c.requires.part absent in
    c.resize.ensures.succeeds (omega arith)

pub returns-clause-same : goal.returns-clause-same
returns-clause-same c =
    let absent = sym (subst (λ (x : ℕ). x ≡ get_or c.args.starts.now.items c.args.part x) c.if-start-ne0.false c.index-start.ensures) in
    let start : c.len-start.result ≡ length c.args.entries.now.items = omega arith in
    let items = entries_more c.args.entries.now.items c.resize.new.self.items (is_ok c.resize.result) c.len-start.result _ c.resize.ensures.items (ap is_ok c.unwrap.ensures) start (omega arith) in
    rw (items, start) (opened_more c.args.starts.now.items c.args.entries.now.items _ c.args.part c.requires.table c.requires.part absent)

pub returns-clause-table : goal.returns-clause-table
returns-clause-table c =
    let absent = sym (subst (λ (x : ℕ). x ≡ get_or c.args.starts.now.items c.args.part x) c.if-start-ne0.false c.index-start.ensures) in
    let start : c.len-start.result ≡ length c.args.entries.now.items = omega arith in
    let items = entries_more c.args.entries.now.items c.resize.new.self.items (is_ok c.resize.result) c.len-start.result _ c.resize.ensures.items (ap is_ok c.unwrap.ensures) start (omega arith) in
    table_larger _ _ _ _ (rw (items, start) (table_more c.args.starts.now.items c.args.entries.now.items _ c.args.part c.requires.table c.requires.part absent)) c.resize.ensures.capacity
