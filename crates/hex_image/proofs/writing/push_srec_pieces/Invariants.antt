use Rattle.std.proofs.Common.{◌≡◌, ◌^◌, ◌≤◌, ◌++◌, drop}
use Rattle.std.specs.List.{AllByRecursion, flat_map}
use Rattle.hex_image.specs.Images.{end_of}
use Rattle.hex_image.specs.Writing.{rows_of, srec_row}
use Rattle.hex_image.proofs.writing.push_srec_pieces.Given as goal

-- the text so far with that of the rest is that of all
abbrev pub invariant-loop-piece : goal.invariant-loop-piece
invariant-loop-piece l = record {
  same : l.out.items ++ flat_map srec_row (rows_of (drop l.piece-index l.pieces)) ≡ l.fn.out.items ++ flat_map srec_row (rows_of l.pieces);
  inside : AllByRecursion (λ p. end_of p ≤ 2 ^ 32) (drop l.piece-index l.pieces);
}
