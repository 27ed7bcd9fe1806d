use Rattle.std.proofs.Common.{◌∙◌}
use Rattle.arm7_bus.proofs.bus.Bus.write_picked_anew.Goals as goal

pub returns-then-move_data_window-clause-stored : goal.returns-then-move_data_window-clause-stored
returns-then-move_data_window-clause-stored g c = λ _.
    rw (c.move_data_window.ensures.same ∙ c.finds.ensures.same) at c.store_picked_in_data_window.ensures

pub returns-clause-stored : goal.returns-clause-stored
returns-clause-stored g c = λ e. rw (c.move_data_window.ensures.same ∙ c.finds.ensures.same) at c.store_picked.ensures.stored e
