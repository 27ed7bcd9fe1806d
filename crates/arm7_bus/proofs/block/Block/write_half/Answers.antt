use Rattle.std.proofs.Common.{◌%◌, set, refl}
use Rattle.arm7_bus.proofs.WriteLemmas.{half_set}
use Rattle.arm7_bus.proofs.block.Block.write_half.Goals as goal

pub returns-clause-bytes : goal.returns-clause-bytes
returns-clause-bytes c =
    let xs = c.args.self.now.cells.bytes in
    half_set xs (set xs c.args.at (c.args.v % 256)) c.write_two.new.self.bytes c.args.at c.args.v c.requires refl c.write_two.ensures.0
