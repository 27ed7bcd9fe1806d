use Rattle.asm_pool.proofs.PoolLemmas.{flush_is, kept_flush}
use Rattle.asm_pool.proofs.pools.Pools.flush.Goals as goal

pub invariant_of-self-2 : goal.invariant_of-self-2
invariant_of-self-2 c =
    rw (c.in_ok-place.ensures.ok, c.as_slice-literals.ensures.value) (kept_flush c.self.inside.literals.items c.self.inside.offsets.items c.args.offset
    c.self.inside.index c.forget.new.index c.self.invariant c.forget.ensures)

pub returns-clause-ok : goal.returns-clause-ok
returns-clause-ok c =
    rw (c.in_ok-place.ensures.ok, c.as_slice-literals.ensures.value, ← c.self.view_is)
    (flush_is c.self.inside.literals.items c.self.inside.offsets.items c.args.offset c.self.invariant.within)
