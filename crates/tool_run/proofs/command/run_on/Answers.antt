use Rattle.tool_run.proofs.command.run_on.Goals as goal

pub returns-clause-run : goal.returns-clause-run
returns-clause-run g c = record {
  core = c.reset-machine.result.state;
  reset = c.reset-machine.ensures;
  made = c.run_for-end.result.steps;
  few = rw c.from.ensures at c.run_for-end.ensures.few;
  core' = c.run_for-end.new.m.state;
  end = _;
  runs = rw c.from.ensures at c.run_for-end.ensures.runs;
  devices = c.into_devices.ensures;
}
