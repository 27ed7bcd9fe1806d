use Rattle.std.proofs.Common.{◌≡◌, ◌++◌, map, take}
use Rattle.tool_run.specs.Images as images
use Rattle.tool_run.proofs.maps.push_region_needs.Given as goal

abbrev pub invariant-loop-line : goal.invariant-loop-line
invariant-loop-line l = l.needs.items ≡ l.fn.needs.items ++ map images.region_need (take l.line-index l.lines)
