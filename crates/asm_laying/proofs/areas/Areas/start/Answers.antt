use Rattle.asm_laying.proofs.AreaLemmas.{pool_small, starts_at}
use Rattle.asm_laying.proofs.areas.Areas.start.Goals as goal

pub alignment-requires : goal.alignment-requires
alignment-requires c =
    pool_small c.args.self.now.current c.requires.pieces c.pool_alignment-pool.result (c.pool_alignment-pool.ensures c.requires.pieces c.requires.ends)

pub returns : goal.returns
returns c = λ pieces h.
    starts_at c.args.self.now.current pieces c.args.thumb c.args.what.now c.pool_alignment-pool.result c.alignment.result c.start.result
    (c.pool_alignment-pool.ensures pieces h) c.alignment.ensures.alignment (c.start.ensures pieces h)
