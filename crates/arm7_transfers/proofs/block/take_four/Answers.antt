use Rattle.std.proofs.Common.{ℕ, List, false, length, arith, ap, sym, ◌∙◌}
use Rattle.arm7_transfers.specs.BlockAccesses.{drawn}
use Rattle.arm7_bus.proofs.PartLemmas.{four_absent, four_there}
use Rattle.arm7_transfers.proofs.block.take_four.Goals as goal

pub returns-then-some-eq0-clause-behind : goal.returns-then-some-eq0-clause-behind
returns-then-some-eq0-clause-behind c = omega (arith, ap length (four_absent c.args.list c.args.k (sym c.field-some.ensures ∙ c.if-some-eq0.true)))

pub returns-then-some-eq0-clause-core : goal.returns-then-some-eq0-clause-core
returns-then-some-eq0-clause-core c =
    ap (λ (ks : List ℕ). drawn false ks c.args.at c.args.core.now c.args.bytes.now) (sym (four_absent c.args.list c.args.k (sym c.field-some.ensures ∙ c.if-some-eq0.true)))

pub take_run-requires-clause-room : goal.take_run-requires-clause-room
take_run-requires-clause-room c = omega (arith, ap length (four_there c.args.list c.args.k (sym c.field-some.ensures ∙ c.if-some-eq15.true)), c.requires.room)

pub returns-then-some-eq15-clause-behind : goal.returns-then-some-eq15-clause-behind
returns-then-some-eq15-clause-behind c =
    omega (arith, ap length (four_there c.args.list c.args.k (sym c.field-some.ensures ∙ c.if-some-eq15.true)), c.take_run.ensures.behind)

pub returns-then-some-eq15-clause-core : goal.returns-then-some-eq15-clause-core
returns-then-some-eq15-clause-core c =
    c.take_run.ensures.core
    ∙ ap (λ (ks : List ℕ). drawn false ks c.args.at c.args.core.now c.args.bytes.now) (sym (four_there c.args.list c.args.k (sym c.field-some.ensures ∙ c.if-some-eq15.true)))
