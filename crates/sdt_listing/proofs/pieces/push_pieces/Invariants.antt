use Rattle.std.proofs.Common.{◌≡◌, ◌++◌, drop, flat_map}
use Rattle.sdt_listing.specs.Pieces as pieces
use Rattle.sdt_listing.proofs.pieces.push_pieces.Given as goal

abbrev pub invariant-loop-piece : goal.invariant-loop-piece
invariant-loop-piece l = l.out.items ++ flat_map pieces.piece (drop l.piece-index l.all) ≡ l.fn.out.items ++ flat_map pieces.piece l.all
