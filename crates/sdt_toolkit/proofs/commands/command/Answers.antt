use Rattle.std.proofs.Common.{map, string_bytes, refl}
use Rattle.tool_words.specs.Commands.{command_of}
use Rattle.std.proofs.Common.{false, ◌≡◌, Result, ℕ}
use Rattle.tool_words.specs.declared.command.Command.{Command}
use Rattle.sdt_toolkit.specs.Commands.{is_run, may_print}
use Rattle.sdt_toolkit.proofs.CommandLemmas.{asked, refused, read_as}
use Rattle.sdt_toolkit.proofs.commands.command.Goals as goal

pub returns-in-Ok-clause-commanded : goal.returns-in-Ok-clause-commanded
returns-in-Ok-clause-commanded g c = asked c.in-Ok.command (command_of (map string_bytes c.args.words.now)) (record {
  before = g.S.Store.files c.args.store.now;
  after = g.S.Store.files c.carried_out.new.store;
  printed = g.K.Sink.bytes c.args.sink.now;
  prints = g.K.Sink.bytes c.carried_out.new.sink;
  reads = g.S.Store.read_faults c.args.store.now;
  reads_now = g.S.Store.read_faults c.carried_out.new.store;
  writes = g.S.Store.write_faults c.args.store.now;
  writes_now = g.S.Store.write_faults c.carried_out.new.store;
  faults = g.K.Sink.faults c.args.sink.now;
  faults_now = g.K.Sink.faults c.carried_out.new.sink;
}) _ _ c.carried_out.result c.in-Ok.ensures.exact c.carried_out.ensures.commanded

pub returns-in-Err-clause-commanded : goal.returns-in-Err-clause-commanded
returns-in-Err-clause-commanded g c = refused c.in-Err.fault (command_of (map string_bytes c.args.words.now)) (record {
  before = g.S.Store.files c.args.store.now;
  after = g.S.Store.files c.args.store.now;
  printed = g.K.Sink.bytes c.args.sink.now;
  prints = g.K.Sink.bytes c.args.sink.now;
  reads = g.S.Store.read_faults c.args.store.now;
  reads_now = g.S.Store.read_faults c.args.store.now;
  writes = g.S.Store.write_faults c.args.store.now;
  writes_now = g.S.Store.write_faults c.args.store.now;
  faults = g.K.Sink.faults c.args.sink.now;
  faults_now = g.K.Sink.faults c.args.sink.now;
}) _ c.refused.result c.in-Err.ensures.exact c.refused.ensures (record { files = refl; sink = refl })

pub returns-in-Ok-clause-devices : goal.returns-in-Ok-clause-devices
returns-in-Ok-clause-devices g c = λ quiet.
    c.carried_out.ensures.devices (read_as (λ (x : Result Command ℕ). is_run x ≡ false) c.in-Ok.command (command_of (map string_bytes c.args.words.now)) c.in-Ok.ensures.exact quiet)

pub returns-in-Ok-clause-sink : goal.returns-in-Ok-clause-sink
returns-in-Ok-clause-sink g c = λ quiet.
    c.carried_out.ensures.sink (read_as (λ (x : Result Command ℕ). may_print x ≡ false) c.in-Ok.command (command_of (map string_bytes c.args.words.now)) c.in-Ok.ensures.exact quiet)

pub returns-in-Err-clause-devices : goal.returns-in-Err-clause-devices
returns-in-Err-clause-devices g c = λ quiet. refl

pub returns-in-Err-clause-sink : goal.returns-in-Err-clause-sink
returns-in-Err-clause-sink g c = λ quiet. refl
