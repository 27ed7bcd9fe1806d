use Rattle.link_assign.specs.Index.{choices_in}
use Rattle.place_model.specs.Keys.{same_choice}
use Rattle.link_assign.specs.Shown.{shown_offer}
use Rattle.link_assign.proofs.NotingLemmas.{module_noted}
use Rattle.link_assign.proofs.index.note_module.Goals as goal

pub returns : goal.returns
returns c = λ q d.
    module_noted c.args.home.now q d (same_choice d c.args.offer.now.selection.now.choice) (choices_in c.args.modules.now) _ _ c.take_choices-choices.result c.note_choice.new.choices (shown_offer c.args.offer.now)
    (c.take_choices-choices.ensures.given d) (c.take_choices-choices.ensures.left q) (c.in_ok-note_choice.ensures d)
    (c.in_ok-insert.ensures.updates.0 (record { ref_ptr = (0, 0); now = q }))
