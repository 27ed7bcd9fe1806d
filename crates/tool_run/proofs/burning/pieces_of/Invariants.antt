use Rattle.std.proofs.Common.{◌≡◌, map}
use Rattle.tool_run.specs.Burns as burns
use Rattle.tool_run.proofs.burning.pieces_of.Given as goal

abbrev pub invariant-loop-load : goal.invariant-loop-load
invariant-loop-load l = l.pieces.items ≡ map burns.piece_of l.yielded
