use Rattle.std.proofs.Common.{Some}
use Rattle.place_model.specs.declared.scatter.Choice.TheVariants as choice
use Rattle.link_items.specs.LinkedItems.{item_of}
use Rattle.place_model.specs.Keys.{class_by}
use Rattle.link_report.specs.Keys.{selection_at}
use Rattle.place_model.proofs.KeyLemmas.{named_in_module}
use Rattle.link_report.proofs.SelectionLemmas.{key_found, key_missed, none_first, none_more, takes_none, takes_first}
use Rattle.link_report.proofs.selections.best_key.Goals as goal

pub returns-then-is_there : goal.returns-then-is_there
returns-then-is_there c = λ offers h q object number.
    let i = item_of object c.args.home.now number c.args.area.now in
    key_found offers c.args.keys.now h i 0 (Some c.args.home.now) (choice.Named c.args.area.now.name) (named_in_module i) c.named_key-key.result c.named_key-key.ensures.home c.named_key-key.ensures.sought
    c.is_there.result c.is_there.ensures c.if-is_there.true (takes_first offers i) q

pub returns : goal.returns
returns c = λ offers h q object number.
    let i = item_of object c.args.home.now number c.args.area.now in
    let none = key_missed offers c.args.keys.now h i 0 (Some c.args.home.now) (choice.Named c.args.area.now.name) (named_in_module i) c.named_key-key.result c.named_key-key.ensures.home c.named_key-key.ensures.sought
    c.is_there.result c.is_there.ensures c.if-is_there.false in
    c.class_in_module.ensures offers h q object number (none_more offers i 0 (none_first offers i) none)
