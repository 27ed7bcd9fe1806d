use Rattle.std.proofs.Common.{None}
use Rattle.place_model.specs.declared.scatter.Choice.TheVariants as choice
use Rattle.link_items.specs.LinkedItems.{item_of}
use Rattle.place_model.specs.Keys.{class_by}
use Rattle.link_report.specs.Keys.{selection_at}
use Rattle.place_model.proofs.KeyLemmas.{named_anywhere}
use Rattle.link_report.proofs.SelectionLemmas.{key_found, key_missed, none_first, none_more, takes_none, takes_third}
use Rattle.link_report.proofs.selections.best_anywhere.Goals as goal

pub returns-then-is_there : goal.returns-then-is_there
returns-then-is_there c = λ offers h q object number home none.
    let i = item_of object home number c.args.area.now in
    key_found offers c.args.keys.now h i 2 None (choice.Named c.args.area.now.name) (named_anywhere i) c.named_key-key.result c.named_key-key.ensures.home c.named_key-key.ensures.sought
    c.is_there.result c.is_there.ensures c.if-is_there.true (takes_third offers i none) q

pub returns : goal.returns
returns c = λ offers h q object number home none.
    let i = item_of object home number c.args.area.now in
    let missed = key_missed offers c.args.keys.now h i 2 None (choice.Named c.args.area.now.name) (named_anywhere i) c.named_key-key.result c.named_key-key.ensures.home c.named_key-key.ensures.sought
    c.is_there.result c.is_there.ensures c.if-is_there.false in
    c.class_anywhere.ensures offers h q object number home (none_more offers i 2 none missed)
