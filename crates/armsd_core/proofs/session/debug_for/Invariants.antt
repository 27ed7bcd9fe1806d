use Rattle.std.proofs.Common.{◌≤◌, ◌*◌, drop}
use Rattle.arm7_model.specs.Registers.{IsValid}
use Rattle.arm7_transfers.specs.Ready.{IsReady}
use Rattle.arm7_transfers.specs.Views.{state_of}
use Rattle.armsd_core.specs.contracts.session.debug_for.{dyn-1-ghosts}
use Rattle.armsd_core.specs.Desks.{desk_of}
use Rattle.armsd_core.specs.Sessions.{opened}
use Rattle.armsd_core.proofs.SessionLemmas.{HasLeft, IsUnderWay}
use Rattle.armsd_core.proofs.session.debug_for.Given as goal

abbrev pub invariant-commands : goal.invariant-commands
invariant-commands g l = record {
  way : IsUnderWay l.commands (opened l.fn.m.state
      (state_of (λ z. ((dyn-1-ghosts g.row.K g.K.Sink g.K.Sink-dict g.dyn-1).0.entry z.0).1.base z.1) (λ z. ((dyn-1-ghosts g.row.K g.K.Sink g.K.Sink-dict g.dyn-1).0.entry z.0).1.size z.1) (λ z. ((dyn-1-ghosts g.row.K g.K.Sink g.K.Sink-dict g.dyn-1).0.entry z.0).1.state z.1) (λ z. ((dyn-1-ghosts g.row.K g.K.Sink g.K.Sink-dict g.dyn-1).0.entry z.0).1.touched z.1) l.fn.bus))
      (g.K.Sink.bytes l.fn.sink) (drop l.command-index l.commands)
      (desk_of l.notes l.m.state
      (state_of (λ z. ((dyn-1-ghosts g.row.K g.K.Sink g.K.Sink-dict g.dyn-1).0.entry z.0).1.base z.1) (λ z. ((dyn-1-ghosts g.row.K g.K.Sink g.K.Sink-dict g.dyn-1).0.entry z.0).1.size z.1) (λ z. ((dyn-1-ghosts g.row.K g.K.Sink g.K.Sink-dict g.dyn-1).0.entry z.0).1.state z.1) (λ z. ((dyn-1-ghosts g.row.K g.K.Sink g.K.Sink-dict g.dyn-1).0.entry z.0).1.touched z.1) l.bus))
      (g.K.Sink.bytes l.sink);
  left : HasLeft l.notes.points (drop l.command-index l.commands);
  steps : l.notes.steps ≤ l.command-index * 1000000000;
  faults : g.K.Sink.faults l.fn.sink ≤ g.K.Sink.faults l.sink;
  valid : IsValid l.m.state;
  ready : IsReady (state_of (λ z. ((dyn-1-ghosts g.row.K g.K.Sink g.K.Sink-dict g.dyn-1).0.entry z.0).1.base z.1) (λ z. ((dyn-1-ghosts g.row.K g.K.Sink g.K.Sink-dict g.dyn-1).0.entry z.0).1.size z.1) (λ z. ((dyn-1-ghosts g.row.K g.K.Sink g.K.Sink-dict g.dyn-1).0.entry z.0).1.state z.1) (λ z. ((dyn-1-ghosts g.row.K g.K.Sink g.K.Sink-dict g.dyn-1).0.entry z.0).1.touched z.1) l.bus);
}
