use Rattle.std.proofs.Common.{◌≡◌, map, take}
use Rattle.tool_run.proofs.maps.files_in.Given as goal

abbrev pub invariant-loop-line : goal.invariant-loop-line
invariant-loop-line l = l.names.items ≡ map (λ x. x.file) (take l.line-index l.lines)
