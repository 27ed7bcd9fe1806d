use Rattle.std.proofs.Common.{◌≡◌, drop}
use Rattle.tool_run.specs.Images as images
use Rattle.tool_run.proofs.maps.judge_lengths.Given as goal

abbrev pub invariant-loop-k : goal.invariant-loop-k
invariant-loop-k l = images.lengths_judged (drop l.k l.lines) (drop l.k l.contents) ≡ images.lengths_judged l.lines l.contents
