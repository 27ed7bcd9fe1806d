use Rattle.std.proofs.Common.{arith}
use Rattle.asm_offsets.specs.Coded.{extent_of_code}
use Rattle.asm_offsets.proofs.PlaceLemmas.{low_behind}
use Rattle.asm_offsets.proofs.area_end.AreaEnd.place.Goals as goal

pub invariant_of-self-2 : goal.invariant_of-self-2
invariant_of-self-2 c =
    low_behind c.self.inside.end c.start_of-offset.result c.size_of-size.result (extent_of_code c.args.extent.now) c.self.inside.pools c.take.new.pools
    c.requires c.self.invariant c.start_of-offset.ensures c.size_of-size.ensures (omega arith) c.in_ok-literal.ensures.1
