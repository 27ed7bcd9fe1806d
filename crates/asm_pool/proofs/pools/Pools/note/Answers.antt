use Rattle.std.proofs.Common.{◌≡◌, ◌+◌, ◌<◌, ◌^◌, sym, ap, ◌∙◌, length, drop, arith}
use Rattle.asm_pool.specs.Pooled.{Pooled, place_among}
use Rattle.asm_pool.proofs.LiteralLemmas.{unplaced}
use Rattle.asm_pool.proofs.PoolLemmas.{entries_of, noted_old, noted_new, kept_more}
use Rattle.asm_pool.proofs.pools.Pools.note.Goals as goal

pub returns-in-Some-clause-ok : goal.returns-in-Some-clause-ok
returns-in-Some-clause-ok c =
    rw (← c.self.view_is) (noted_old c.self.inside.literals.items c.self.inside.offsets.items c.args.literal.now c.in-Some.number c.self.invariant.within
    (sym c.in-Some.is ∙ c.find.ensures ∙ c.self.invariant.found c.args.literal.now))

pub returns-in_ok-add-in-None-clause-ok : goal.returns-in_ok-add-in-None-clause-ok
returns-in_ok-add-in-None-clause-ok c =
    let fresh =
    unplaced (length c.self.inside.offsets.items) (place_among c.args.literal.now (drop (length c.self.inside.offsets.items) c.self.inside.literals.items))
    (sym (c.self.invariant.found c.args.literal.now) ∙ sym c.find.ensures ∙ c.in-None.is) in
    let number : c.len-number.result ≡ length c.self.inside.literals.items = omega arith in
    rw (← c.self.view_is, c.in_ok-add-in-None.ensures.more, number) (noted_new c.self.inside.literals.items c.self.inside.offsets.items c.args.literal.now
    c.self.invariant.within fresh)

pub invariant_of-self-in-None : goal.invariant_of-self-in-None
invariant_of-self-in-None c =
    let number : c.len-number.result ≡ length c.self.inside.literals.items = omega arith in
    let all = entries_of c.self.inside.literals.items c.self.inside.offsets.items c.self.invariant.within in
    let same = ap (λ (p : Pooled). length p.placed + length p.waiting) c.self.view_is in
    let room : length c.self.inside.literals.items < 2 ^ 24 = omega arith in
    rw c.in_ok-add-in-None.ensures.more
    (kept_more c.self.inside.literals.items c.self.inside.offsets.items c.self.inside.index c.add.new.index c.args.literal.now c.self.invariant room
    (sym c.find.ensures ∙ c.in-None.is)
    (rw number at c.in_ok-add-in-None.ensures.numbers))
