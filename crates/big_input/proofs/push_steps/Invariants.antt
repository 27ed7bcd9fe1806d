use Rattle.std.proofs.Common.{◌≡◌, ◌++◌, map}
use Rattle.std.specs.List.{range_with_len}
use Rattle.big_model.specs.Sources.{spelled, step_line}
use Rattle.big_input.proofs.push_steps.Given as goal

abbrev pub invariant-loop-k : goal.invariant-loop-k
invariant-loop-k l = l.out.items ≡ l.initial.out.items ++ spelled (map step_line (range_with_len 0 l.k))
