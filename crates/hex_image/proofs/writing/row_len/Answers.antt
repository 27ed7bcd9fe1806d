use Rattle.std.proofs.Common.{◌≡◌, ◌-◌, ◌%◌, length, min, arith}
use Rattle.hex_image.proofs.RowLemmas.{row_of_least}
use Rattle.hex_image.proofs.writing.row_len.Goals as goal

pub returns-clause-row : goal.returns-clause-row
returns-clause-row c =
    let least : c.min.result ≡ min (length c.args.bytes.now) (16 - c.args.at % 16) = grind arith in
    row_of_least c.args.at c.args.bytes.now c.min.result c.requires least
