use Rattle.std.proofs.Common.{◌≡◌, ◌+◌, drop}
use Rattle.std.specs.List.{flat_map}
use Rattle.link_place.specs.Pieces.{reach, seats}
use Rattle.link_place.specs.Writable.{least_with, lacked}
use Rattle.link_place.proofs.writable.least_in.Given as goal

abbrev pub invariant-loop-piece : goal.invariant-loop-piece
invariant-loop-piece l = record {
  so_far : least_with l.best (flat_map (lacked l.ram l.words) (seats l.words l.origin 0 l.end (drop l.piece-index l.pieces)))
      ≡ least_with l.fn.best (flat_map (lacked l.ram l.words) (seats l.words l.origin 0 l.at l.pieces));
  place : l.end + reach l.words l.origin l.end (drop l.piece-index l.pieces) ≡ l.at + reach l.words l.origin l.at l.pieces;
}
