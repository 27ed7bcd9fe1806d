use Rattle.std.proofs.Common.{sym, ◌∙◌}
use Rattle.std.specs.Option.{option_copied}
use Rattle.asm_expr.specs.Places.{one_entry}
use Rattle.asm_expr.proofs.NameLemmas.{found_before, found_behind}
use Rattle.asm_expr.proofs.names.known_named.Goals as goal

pub returns-in-Some : goal.returns-in-Some
returns-in-Some c =
    found_before c.args.name.now c.args.seen.now.names.now (one_entry (option_copied c.args.seen.now.own)) c.in-Some.entry.now (sym c.in-Some.ensures)

pub returns : goal.returns
returns c =
    c.own_named.ensures
    ∙ found_behind c.args.name.now c.args.seen.now.names.now (one_entry (option_copied c.args.seen.now.own)) (sym c.in_default.ensures)
