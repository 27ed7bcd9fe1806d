use Rattle.std.proofs.Common.{◌≡◌, map, take}
use Rattle.tool_run.specs.Elfs as elfs
use Rattle.tool_run.proofs.elfs.needs_of.Given as goal

abbrev pub invariant-loop-segment : goal.invariant-loop-segment
invariant-loop-segment l = l.needs.items ≡ map elfs.need_of (take l.segment-index l.segments)
