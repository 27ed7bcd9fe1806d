use Rattle.std.proofs.Common.{None, sym}
use Rattle.place_model.specs.declared.scatter.Choice.TheVariants as choice
use Rattle.link_items.specs.LinkedItems.{item_of}
use Rattle.place_model.specs.Keys.{class_by}
use Rattle.link_report.specs.Keys.{selection_at}
use Rattle.place_model.proofs.KeyLemmas as keys
use Rattle.link_report.proofs.SelectionLemmas.{key_found, key_missed, none_first, none_more, takes_none, takes_fourth}
use Rattle.link_report.proofs.selections.class_anywhere.Goals as goal

pub returns-then-is_there : goal.returns-then-is_there
returns-then-is_there c = λ offers h q object number home none.
    let i = item_of object home number c.args.area.now in
    key_found offers c.args.keys.now h i 3 None (class_by c.args.area.now.attributes) (keys.class_anywhere i) c.class_key-key.result c.class_key-key.ensures.home c.class_key-key.ensures.sought
    c.is_there.result c.is_there.ensures c.if-is_there.true (takes_fourth offers i none) q

pub returns : goal.returns
returns c = λ offers h q object number home none.
    let i = item_of object home number c.args.area.now in
    let missed = key_missed offers c.args.keys.now h i 3 None (class_by c.args.area.now.attributes) (keys.class_anywhere i) c.class_key-key.result c.class_key-key.ensures.home c.class_key-key.ensures.sought
    c.is_there.result c.is_there.ensures c.if-is_there.false in
    sym (takes_none offers i none missed (selection_at q))
