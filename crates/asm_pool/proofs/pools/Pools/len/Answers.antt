use Rattle.std.proofs.Common.{◌+◌, ap, arith, length}
use Rattle.asm_pool.specs.Pooled.{Pooled}
use Rattle.asm_pool.proofs.PoolLemmas.{entries_of}
use Rattle.asm_pool.proofs.pools.Pools.len.Goals as goal

pub returns-clause-count : goal.returns-clause-count
returns-clause-count c =
    let all = entries_of c.self.inside.literals.items c.self.inside.offsets.items c.self.invariant.within in
    let same = ap (λ (p : Pooled). length p.placed + length p.waiting) c.self.view_is in
    omega arith
