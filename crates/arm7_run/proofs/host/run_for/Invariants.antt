use Rattle.std.proofs.Common.{◌≤◌, ◌-◌}
use Rattle.arm7_model.specs.Registers.{IsValid}
use Rattle.arm7_transfers.specs.Ready.{IsReady}
use Rattle.arm7_transfers.specs.Views.{state_of}
use Rattle.arm7_run.specs.contracts.host.run_for.{dyn-1-ghosts}
use Rattle.arm7_run.proofs.TurnLemmas.{IsUnderWay}
use Rattle.arm7_run.proofs.host.run_for.Given as goal

abbrev pub invariant-turns : goal.invariant-turns
invariant-turns g l = record {
  way : IsUnderWay l.fn.m.state
      (state_of (λ z. ((dyn-1-ghosts g.row.K g.K.Sink g.K.Sink-dict g.dyn-1).0.entry z.0).1.base z.1) (λ z. ((dyn-1-ghosts g.row.K g.K.Sink g.K.Sink-dict g.dyn-1).0.entry z.0).1.size z.1) (λ z. ((dyn-1-ghosts g.row.K g.K.Sink g.K.Sink-dict g.dyn-1).0.entry z.0).1.state z.1) (λ z. ((dyn-1-ghosts g.row.K g.K.Sink g.K.Sink-dict g.dyn-1).0.entry z.0).1.touched z.1) l.fn.bus)
      (g.K.Sink.bytes l.fn.sink) l.made l.m.state
      (state_of (λ z. ((dyn-1-ghosts g.row.K g.K.Sink g.K.Sink-dict g.dyn-1).0.entry z.0).1.base z.1) (λ z. ((dyn-1-ghosts g.row.K g.K.Sink g.K.Sink-dict g.dyn-1).0.entry z.0).1.size z.1) (λ z. ((dyn-1-ghosts g.row.K g.K.Sink g.K.Sink-dict g.dyn-1).0.entry z.0).1.state z.1) (λ z. ((dyn-1-ghosts g.row.K g.K.Sink g.K.Sink-dict g.dyn-1).0.entry z.0).1.touched z.1) l.bus)
      (g.K.Sink.bytes l.sink);
  few : l.made ≤ l.steps;
  faults : g.K.Sink.faults l.fn.sink ≤ g.K.Sink.faults l.sink;
  valid : IsValid l.m.state;
  ready : IsReady (state_of (λ z. ((dyn-1-ghosts g.row.K g.K.Sink g.K.Sink-dict g.dyn-1).0.entry z.0).1.base z.1) (λ z. ((dyn-1-ghosts g.row.K g.K.Sink g.K.Sink-dict g.dyn-1).0.entry z.0).1.size z.1) (λ z. ((dyn-1-ghosts g.row.K g.K.Sink g.K.Sink-dict g.dyn-1).0.entry z.0).1.state z.1) (λ z. ((dyn-1-ghosts g.row.K g.K.Sink g.K.Sink-dict g.dyn-1).0.entry z.0).1.touched z.1) l.bus);
}

abbrev pub decreases-turns : goal.decreases-turns
decreases-turns g l = l.steps - l.made
