use Rattle.std.proofs.Common.{◌≡◌, List, ◌++◌, None, sym, ap, ◌∙◌}
use Rattle.std.specs.Option.{option_copied}
use Rattle.asm_model.specs.declared.names.LaidName.{LaidName}
use Rattle.asm_model.specs.Meaning.{named_in}
use Rattle.asm_expr.specs.Places.{entry, one_entry}
use Rattle.asm_expr.proofs.NameLemmas.{found_before, found_behind}
use Rattle.asm_expr.proofs.PlaceLemmas.{entry_first, entry_there}
use Rattle.asm_expr.proofs.names.first_named.Goals as goal

pub returns-in-Some : goal.returns-in-Some
returns-in-Some c =
    let q = c.args.name.now in
    let first = c.args.first.now in
    let names = c.args.seen.now.names.now in
    let own = one_entry (option_copied c.args.seen.now.own) in
    let e = c.in-Some.entry.now in
    let found = ap (entry first) c.place_of-place.ensures ∙ entry_first q first names c.requires in
    found_before q (first ++ own) names e (sym (found_before q first own e (sym (c.in-Some.ensures ∙ found))))

pub returns-in-Some-own_named : goal.returns-in-Some-own_named
returns-in-Some-own_named c =
    let q = c.args.name.now in
    let first = c.args.first.now in
    let names = c.args.seen.now.names.now in
    let own = one_entry (option_copied c.args.seen.now.own) in
    let found = ap (entry first) c.place_of-place.ensures ∙ entry_first q first names c.requires in
    found_before q (first ++ own) names c.in-Some-own_named.entry.now
    (sym (c.in-Some-own_named.ensures ∙ found_behind q first own (sym (c.in_default.ensures ∙ found))))

pub returns : goal.returns
returns c =
    let q = c.args.name.now in
    let first = c.args.first.now in
    let names = c.args.seen.now.names.now in
    let own = one_entry (option_copied c.args.seen.now.own) in
    let found = ap (entry first) c.place_of-place.ensures ∙ entry_first q first names c.requires in
    let none : named_in q (first ++ own) ≡ None =
    sym (c.in_default-own_named.ensures ∙ found_behind q first own (sym (c.in_default.ensures ∙ found))) in
    c.entry_in-2.ensures ∙ ap (λ (l : List LaidName). entry l c.place_of-place.result) c.list.ensures ∙ ap (entry names) c.place_of-place.ensures
    ∙ entry_there q names ∙ found_behind q (first ++ own) names none
