use Rattle.std.proofs.Common.{◌≡◌, map, take}
use Rattle.tool_run.specs.Burned as burned
use Rattle.tool_run.proofs.burned.needs_of.Given as goal

abbrev pub invariant-loop-piece : goal.invariant-loop-piece
invariant-loop-piece l = l.needs.items ≡ map burned.need_of (take l.piece-index l.pieces)
