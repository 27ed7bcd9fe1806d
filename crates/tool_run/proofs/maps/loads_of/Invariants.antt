use Rattle.std.proofs.Common.{◌≡◌, length, map, take}
use Rattle.std.specs.List.{zip}
use Rattle.tool_run.specs.Images as images
use Rattle.tool_run.proofs.maps.loads_of.Given as goal

abbrev pub invariant-loop-line : goal.invariant-loop-line
invariant-loop-line l = l.loads.items ≡ map images.load_of (take (length l.yielded) (zip l.lines l.fn.contents.items))
