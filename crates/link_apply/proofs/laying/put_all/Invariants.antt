use Rattle.std.proofs.Common.{◌≡◌, drop}
use Rattle.link_apply.specs.Pieces.{grown_from, pieces_in}
use Rattle.link_apply.proofs.laying.put_all.Given as goal

abbrev pub invariant-pieces : goal.invariant-pieces
invariant-pieces l = grown_from (pieces_in (drop l.piece-index l.pieces)) 0 l.growing.items ≡ grown_from (pieces_in l.pieces) 0 l.fn.growing.items
