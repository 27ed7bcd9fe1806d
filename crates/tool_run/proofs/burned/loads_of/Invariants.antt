use Rattle.std.proofs.Common.{◌≡◌, map}
use Rattle.tool_run.specs.Burned as burned
use Rattle.tool_run.proofs.burned.loads_of.Given as goal

abbrev pub invariant-loop-piece : goal.invariant-loop-piece
invariant-loop-piece l = l.loads.items ≡ map burned.load_of l.yielded
