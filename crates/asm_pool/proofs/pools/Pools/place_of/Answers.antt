use Rattle.std.proofs.Common.{ℕ, List, sym, ◌∙◌, ap}
use Rattle.std.specs.Prelude.{slice_get}
use Rattle.asm_pool.specs.Pooled.{place_of}
use Rattle.asm_pool.proofs.PoolLemmas.{zip_place}
use Rattle.asm_pool.proofs.pools.Pools.place_of.Goals as goal

pub returns : goal.returns
returns c =
    c.offset_at.ensures ∙ ap (λ (os : List ℕ). slice_get os c.args.entry) c.as_slice.ensures.value
    ∙ sym (zip_place c.self.inside.literals.items c.self.inside.offsets.items c.args.entry c.self.invariant.within) ∙ ap (place_of c.args.entry) c.self.view_is
