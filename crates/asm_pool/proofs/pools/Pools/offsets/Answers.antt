use Rattle.std.proofs.Common.{sym, ◌∙◌, ap}
use Rattle.asm_pool.specs.Pooled.{offsets_of}
use Rattle.asm_pool.proofs.PoolLemmas.{zip_offsets}
use Rattle.asm_pool.proofs.pools.Pools.offsets.Goals as goal

pub returns : goal.returns
returns c =
    c.as_slice.ensures.value ∙ sym (zip_offsets c.self.inside.literals.items c.self.inside.offsets.items c.self.invariant.within) ∙ ap offsets_of c.self.view_is
