use Rattle.std.proofs.Common.{◌≤◌}
use Rattle.std.specs.Prelude.{◌-◌}
use Rattle.sdt_outside.specs.Sinks.{Got}
use Rattle.arm7_bus.specs.States.{contents_of}
use Rattle.arm7_run.specs.Strings.{bytes_behind}
use Rattle.arm7_run.proofs.strings.print_bytes.Given as goal

abbrev pub invariant-pieces : goal.invariant-pieces
invariant-pieces g l = record {
  got : Got (g.K.Sink.bytes l.fn.sink) (g.K.Sink.bytes l.sink) (bytes_behind (contents_of l.bus.memory) l.a l.n);
  faults : g.K.Sink.faults l.fn.sink ≤ g.K.Sink.faults l.sink;
  within : l.n ≤ l.count;
}

abbrev pub decreases-pieces : goal.decreases-pieces
decreases-pieces g l = l.count - l.n
