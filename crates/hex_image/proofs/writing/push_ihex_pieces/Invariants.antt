use Rattle.std.proofs.Common.{◌≡◌, ◌^◌, ◌≤◌, ◌++◌, drop, None}
use Rattle.std.specs.List.{AllByRecursion}
use Rattle.hex_image.specs.Images.{end_of}
use Rattle.hex_image.specs.Writing.{ihex_rest, rows_of}
use Rattle.hex_image.proofs.writing.push_ihex_pieces.Given as goal

-- the text so far with that of the rest is that of all
abbrev pub invariant-loop-piece : goal.invariant-loop-piece
invariant-loop-piece l = record {
  same : l.out.items ++ ihex_rest l.known (rows_of (drop l.piece-index l.pieces)) ≡ l.fn.out.items ++ ihex_rest None (rows_of l.pieces);
  inside : AllByRecursion (λ p. end_of p ≤ 2 ^ 32) (drop l.piece-index l.pieces);
}
