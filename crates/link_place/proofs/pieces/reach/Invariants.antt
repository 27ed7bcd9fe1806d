use Rattle.std.proofs.Common.{◌≡◌, ◌+◌, ◌*◌, ◌^◌, ◌≤◌, drop}
use Rattle.link_place.specs.Pieces.{reach}
use Rattle.link_place.proofs.pieces.reach.Given as goal

abbrev pub invariant-loop-piece : goal.invariant-loop-piece
invariant-loop-piece l = record {
  so_far : l.end + reach l.words l.origin l.end (drop l.piece-index l.pieces) ≡ l.at + reach l.words l.origin l.at l.pieces;
  bound : l.end ≤ l.at + 2 ^ 34 * l.piece-index;
  low : l.at ≤ l.end;
}
