use Rattle.std.proofs.Common.{◌≡◌, ◌+◌, ◌^◌, ◌≤◌, ◌++◌, length}
use Rattle.std.specs.List.{flat_map}
use Rattle.hex_image.specs.Writing.{rows, srec_row}
use Rattle.hex_image.proofs.writing.push_srec_piece.Given as goal

-- the text so far with that of the rest is that of all
abbrev pub invariant-rows : goal.invariant-rows
invariant-rows l = record {
  same : l.out.items ++ flat_map srec_row (rows l.at l.rest) ≡ l.fn.out.items ++ flat_map srec_row (rows l.piece.base l.piece.bytes);
  inside : l.at + length l.rest ≤ 2 ^ 32;
}

abbrev pub decreases-rows : goal.decreases-rows
decreases-rows l = length l.rest
