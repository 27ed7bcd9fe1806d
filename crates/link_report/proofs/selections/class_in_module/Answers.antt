use Rattle.std.proofs.Common.{Some}
use Rattle.place_model.specs.declared.scatter.Choice.TheVariants as choice
use Rattle.link_items.specs.LinkedItems.{item_of}
use Rattle.place_model.specs.Keys.{class_by}
use Rattle.link_report.specs.Keys.{selection_at}
use Rattle.place_model.proofs.KeyLemmas as keys
use Rattle.link_report.proofs.SelectionLemmas.{key_found, key_missed, none_first, none_more, takes_none, takes_second}
use Rattle.link_report.proofs.selections.class_in_module.Goals as goal

pub returns-then-is_there : goal.returns-then-is_there
returns-then-is_there c = λ offers h q object number none.
    let i = item_of object c.args.home.now number c.args.area.now in
    key_found offers c.args.keys.now h i 1 (Some c.args.home.now) (class_by c.args.area.now.attributes) (keys.class_in_module i) c.class_key-key.result c.class_key-key.ensures.home c.class_key-key.ensures.sought
    c.is_there.result c.is_there.ensures c.if-is_there.true (takes_second offers i none) q

pub returns : goal.returns
returns c = λ offers h q object number none.
    let i = item_of object c.args.home.now number c.args.area.now in
    let missed = key_missed offers c.args.keys.now h i 1 (Some c.args.home.now) (class_by c.args.area.now.attributes) (keys.class_in_module i) c.class_key-key.result c.class_key-key.ensures.home c.class_key-key.ensures.sought
    c.is_there.result c.is_there.ensures c.if-is_there.false in
    c.best_anywhere.ensures offers h q object number c.args.home.now (none_more offers i 1 none missed)
