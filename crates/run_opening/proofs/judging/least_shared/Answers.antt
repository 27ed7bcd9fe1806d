use Rattle.std.proofs.Common.{map}
use Rattle.std.specs.Prelude.{◌&&◌}
use Rattle.arm7_bus.specs.Meets.{seats_have, seats_share}
use Rattle.arm7_bus.specs.Seats.{seats_by}
use Rattle.arm7_bus.specs.States.{bank_has}
use Rattle.run_opening.specs.Banks.{banks_share, memory_bank}
use Rattle.run_opening.specs.contracts.judging.least_shared.{dyn-1-ghosts}
use Rattle.run_opening.proofs.RoomLemmas.{three_found}
use Rattle.run_opening.proofs.judging.least_shared.Goals as goal

pub returns : goal.returns
returns g c =
    let seats = seats_by (λ z. ((dyn-1-ghosts g.dyn-1).0.entry z.vtable).1.base z.value) (λ z. ((dyn-1-ghosts g.dyn-1).0.entry z.vtable).1.size z.value) (λ z. ((dyn-1-ghosts g.dyn-1).0.entry z.vtable).1.state z.value) (λ z. ((dyn-1-ghosts g.dyn-1).0.entry z.vtable).1.touched z.value) c.args.devices.now in
    three_found (λ a. banks_share (map memory_bank c.args.banks.now) a) (λ a. seats_share seats a) (λ a. bank_has (map memory_bank c.args.banks.now) a 1 && seats_have seats a)
    c.shared_by_banks.result c.shared_by_devices.result c.shared_by_both.result c.lesser-alike.result c.lesser.result
    c.shared_by_banks.ensures c.shared_by_devices.ensures c.shared_by_both.ensures c.lesser-alike.ensures c.lesser.ensures
