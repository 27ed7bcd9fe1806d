use Rattle.std.proofs.Common.{◌≡◌, ◌+◌, ◌^◌, ◌≤◌, ◌++◌, List, length}
use Rattle.hex_image.specs.declared.records.Piece.{Piece}
use Rattle.hex_image.specs.Writing.{ihex_rest, rows}
use Rattle.hex_image.proofs.writing.push_ihex_piece.Given as goal

-- the text so far with that of the rest is that of all
abbrev pub invariant-rows : goal.invariant-rows
invariant-rows l = record {
  same : (more : List Piece) → l.out.items ++ ihex_rest l.known (rows l.at l.rest ++ more) ≡ l.fn.out.items ++ ihex_rest l.fn.known (rows l.piece.base l.piece.bytes ++ more);
  inside : l.at + length l.rest ≤ 2 ^ 32;
}

abbrev pub decreases-rows : goal.decreases-rows
decreases-rows l = length l.rest
