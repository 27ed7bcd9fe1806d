use Rattle.std.proofs.Common.{◌≡◌, ◌++◌, drop}
use Rattle.link_place.specs.Merging.{merged, merged_behind}
use Rattle.link_place.proofs.merging.merged.Given as goal

abbrev pub invariant-loop-piece : goal.invariant-loop-piece
invariant-loop-piece l = l.out.items ++ merged_behind l.last (drop l.piece-index l.pieces) ≡ merged l.pieces
