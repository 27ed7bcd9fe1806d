use Rattle.std.proofs.Common.{ap, ◌∙◌}
use Rattle.std.specs.Prelude.{◌&&◌}
use Rattle.arm7_bus.specs.Meets.{seats_have}
use Rattle.arm7_bus.specs.Seats.{has_access, seats_by}
use Rattle.arm7_bus.specs.States.{Contents, bank_has}
use Rattle.arm7_bus.specs.contracts.bus.Bus.add_bank.{dyn-1-ghosts}
use Rattle.arm7_bus.proofs.LookupLemmas.{nowhere_first}
use Rattle.arm7_bus.proofs.MeetLemmas.{either_found}
use Rattle.arm7_bus.proofs.PagingLemmas.{memory_before}
use Rattle.arm7_bus.proofs.bus.Bus.add_bank.Goals as goal

pub returns-in-Some-clause-err : goal.returns-in-Some-clause-err
returns-in-Some-clause-err g c =
    either_found
    (λ a. has_access c.args.r.base c.args.r.size a 1 && bank_has c.args.self.now.memory.banks.items a 1)
    (λ a. has_access c.args.r.base c.args.r.size a 1 && seats_have (seats_by (λ z. ((dyn-1-ghosts g.dyn-1).0.entry z.vtable).1.base z.value) (λ z. ((dyn-1-ghosts g.dyn-1).0.entry z.vtable).1.size z.value) (λ z. ((dyn-1-ghosts g.dyn-1).0.entry z.vtable).1.state z.value) (λ z. ((dyn-1-ghosts g.dyn-1).0.entry z.vtable).1.touched z.value) c.args.self.now.devices.items) a)
    c.meeting.result c.meeting-2.result c.lesser.result c.in-Some.address
    c.meeting.ensures (rw c.deref.ensures.value at c.meeting-2.ensures) c.lesser.ensures c.in-Some.is

pub returns-in-Ok-clause-zeros : goal.returns-in-Ok-clause-zeros
returns-in-Ok-clause-zeros g c =
    λ a. ap (λ (x : Contents). x.memory a) c.in-Ok.ensures.ok
    ∙ memory_before c.args.self.now.memory.pages.table c.args.self.now.memory.pages.frames a c.requires.unstarted

pub add_bank-requires : goal.add_bank-requires
add_bank-requires g c =
    nowhere_first (λ a. has_access c.args.r.base c.args.r.size a 1 && bank_has c.args.self.now.memory.banks.items a 1)
    c.meeting.result c.meeting-2.result c.lesser.result c.meeting.ensures c.lesser.ensures c.in-None.is
