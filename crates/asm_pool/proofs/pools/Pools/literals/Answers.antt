use Rattle.std.proofs.Common.{sym, ◌∙◌, ap}
use Rattle.asm_pool.specs.Pooled.{literals_of}
use Rattle.asm_pool.proofs.PoolLemmas.{zip_literals}
use Rattle.asm_pool.proofs.pools.Pools.literals.Goals as goal

pub returns : goal.returns
returns c = c.as_slice.ensures.value ∙ sym (zip_literals c.self.inside.literals.items c.self.inside.offsets.items c.self.invariant.within)
    ∙ ap literals_of c.self.view_is
