use Rattle.std.proofs.Common.{◌-◌, arith}
use Rattle.asm_laying.proofs.ReadLemmas.{read_at}
use Rattle.asm_laying.proofs.values.exponent_there.Goals as goal

pub number_there-requires : goal.number_there-requires
number_there-requires c =
    read_at c.args.alignments.now (c.loop-i.i - 1) c.index-alignments-i.result (omega arith) c.index-alignments-i.is c.requires
