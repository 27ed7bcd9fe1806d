use Rattle.sdt_toolkit.proofs.BigEnd.{big_run_ends}
use Rattle.sdt_toolkit.proofs.BigRuns.{big_images_fit, big_images_run}
use Rattle.sdt_toolkit.proofs.big_laws.big_law.Goals as goal

pub returns-clause-runs : goal.returns-clause-runs
returns-clause-runs c =
    big_images_run c.big_image_law.ensures.starts
    (big_run_ends c.big_runs.ensures c.board_is_one.ensures c.bus_run_is_one.ensures c.devices_are_left.ensures c.runs_are_bus_runs.ensures)
    c.program_is_entered.ensures c.bus_run_is_one.ensures c.made_steps_are_one.ensures

pub returns-clause-fits : goal.returns-clause-fits
returns-clause-fits c = big_images_fit c.big_image_law.ensures.starts c.default_bank_has_room.ensures
