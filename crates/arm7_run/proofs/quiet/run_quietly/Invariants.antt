use Rattle.std.proofs.Common.{◌≤◌}
use Rattle.arm7_model.specs.Registers.{IsValid}
use Rattle.arm7_transfers.specs.Ready.{IsReady}
use Rattle.arm7_transfers.specs.Views.{state_of}
use Rattle.arm7_run.specs.Quiets.{Follows}
use Rattle.arm7_run.specs.contracts.quiet.run_quietly.{dyn-1-ghosts}
use Rattle.arm7_run.proofs.IdleLemmas.{IsKnown}
use Rattle.arm7_run.proofs.quiet.run_quietly.Given as goal

abbrev pub invariant-steps : goal.invariant-steps
invariant-steps g l = record {
  follows : Follows l.begun l.fn.m.state
      (state_of (λ z. ((dyn-1-ghosts g.dyn-1).0.entry z.0).1.base z.1) (λ z. ((dyn-1-ghosts g.dyn-1).0.entry z.0).1.size z.1) (λ z. ((dyn-1-ghosts g.dyn-1).0.entry z.0).1.state z.1) (λ z. ((dyn-1-ghosts g.dyn-1).0.entry z.0).1.touched z.1) l.fn.bus)
      l.made l.m.state
      (state_of (λ z. ((dyn-1-ghosts g.dyn-1).0.entry z.0).1.base z.1) (λ z. ((dyn-1-ghosts g.dyn-1).0.entry z.0).1.size z.1) (λ z. ((dyn-1-ghosts g.dyn-1).0.entry z.0).1.state z.1) (λ z. ((dyn-1-ghosts g.dyn-1).0.entry z.0).1.touched z.1) l.bus);
  least : l.begun ≤ l.made;
  few : l.made ≤ l.steps;
  valid : IsValid l.m.state;
  ready : IsReady (state_of (λ z. ((dyn-1-ghosts g.dyn-1).0.entry z.0).1.base z.1) (λ z. ((dyn-1-ghosts g.dyn-1).0.entry z.0).1.size z.1) (λ z. ((dyn-1-ghosts g.dyn-1).0.entry z.0).1.state z.1) (λ z. ((dyn-1-ghosts g.dyn-1).0.entry z.0).1.touched z.1) l.bus);
  idle : IsKnown l.idle (state_of (λ z. ((dyn-1-ghosts g.dyn-1).0.entry z.0).1.base z.1) (λ z. ((dyn-1-ghosts g.dyn-1).0.entry z.0).1.size z.1) (λ z. ((dyn-1-ghosts g.dyn-1).0.entry z.0).1.state z.1) (λ z. ((dyn-1-ghosts g.dyn-1).0.entry z.0).1.touched z.1) l.bus);
}
