use Rattle.std.proofs.Common.{◌+◌, ◌/◌, ◌%◌, set, refl}
use Rattle.arm7_bus.proofs.WriteLemmas.{word_set}
use Rattle.arm7_bus.proofs.block.Block.write_word.Goals as goal

pub returns-clause-bytes : goal.returns-clause-bytes
returns-clause-bytes c =
    let xs = c.args.self.now.cells.bytes in
    let at = c.args.at in
    let v = c.args.v in
    let one = set xs at (v % 256) in
    let two = set one (at + 1) (v / 256 % 256) in
    let three = set two (at + 2) (v / 256 / 256 % 256) in
    word_set xs one two three c.write_four.new.self.bytes at v c.requires refl refl refl c.write_four.ensures.0
