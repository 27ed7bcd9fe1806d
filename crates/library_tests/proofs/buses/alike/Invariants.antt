use Rattle.arm7_bus.specs.Buses.{IsStarted}
use Rattle.arm7_transfers.specs.Views.{state_of}
use Rattle.library_tests.specs.contracts.buses.alike.{dyn-1-ghosts}
use Rattle.library_tests.proofs.buses.alike.Given as goal

abbrev pub invariant-numbers : goal.invariant-numbers
invariant-numbers g l =
    IsStarted (state_of (λ z. ((dyn-1-ghosts g.dyn-1).0.entry z.0).1.base z.1) (λ z. ((dyn-1-ghosts g.dyn-1).0.entry z.0).1.size z.1) (λ z. ((dyn-1-ghosts g.dyn-1).0.entry z.0).1.state z.1) (λ z. ((dyn-1-ghosts g.dyn-1).0.entry z.0).1.touched z.1) l.bus)
