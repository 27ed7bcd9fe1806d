use Rattle.std.proofs.Common.{rules, append_assoc, arith}
use Rattle.sdt_listing.proofs.Names.{listed, unlisted}
use Rattle.sdt_listing.proofs.parts.+push_named.Goals as goal

pub returns-then-not-lists : goal.returns-then-not-lists
returns-then-not-lists t c = rw (unlisted c.args.k c.args.count c.args.list c.lists.result (omega arith) c.lists.ensures c.if-not-lists.true) c.push_named.ensures

pub returns : goal.returns
returns t c =
    let e = listed c.args.k c.args.count c.args.list c.lists.result (omega arith) c.lists.ensures c.if-not-lists.false in
    search (rules, append_assoc, e)
