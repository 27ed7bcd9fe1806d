-- What is written tells what was written.
use Rattle.std.proofs.Common.{[], refl}
use Rattle.hex_image.specs.Laws.{IhexLaw, SrecLaw}
use Rattle.hex_image.specs.Writing.{rows_of}
use Rattle.hex_image.proofs.BackLemmas.{ihex_back, srec_back}
use Rattle.hex_image.proofs.ToldLemmas.{rows_new, told_same}

pub ihex_law : IhexLaw
ihex_law b is = record {
  read = record { pieces = rows_of b.pieces; start = b.start };
  reads = ihex_back (rows_of b.pieces) b.start (rows_new b.pieces [] [] tt (λ x. refl) is.apart is.are_bytes is.in_space) is.start_fits is.start_state;
  same = told_same b.pieces;
  start = refl;
}

pub srec_law : SrecLaw
srec_law b is = record {
  read = record { pieces = rows_of b.pieces; start = b.start };
  reads = srec_back (rows_of b.pieces) b.start (rows_new b.pieces [] [] tt (λ x. refl) is.apart is.are_bytes is.in_space) is.start_fits is.start_state;
  same = told_same b.pieces;
  start = refl;
}
