use Rattle.std.proofs.Common.{ℕ, List, length, arith, ap, sym, ◌∙◌}
use Rattle.sdt_word.specs.Bytes.{written}
use Rattle.arm7_bus.specs.Picks.{picked_bytes}
use Rattle.arm7_bus.proofs.PartLemmas.{four_absent, four_there}
use Rattle.arm7_bus.proofs.WriteLemmas.{none_written}
use Rattle.arm7_bus.proofs.frames.put_four.Goals as goal

pub returns-then-some-eq0-clause-behind : goal.returns-then-some-eq0-clause-behind
returns-then-some-eq0-clause-behind c = omega (arith, ap length (four_absent c.args.list c.args.k (sym c.field-some.ensures ∙ c.if-some-eq0.true)))

pub returns-then-some-eq0-clause-bytes : goal.returns-then-some-eq0-clause-bytes
returns-then-some-eq0-clause-bytes c =
    let xs = c.args.block.now.cells.bytes in
    sym (none_written xs c.args.at)
    ∙ ap (λ (ks : List ℕ). written xs c.args.at (picked_bytes c.args.words.now ks)) (sym (four_absent c.args.list c.args.k (sym c.field-some.ensures ∙ c.if-some-eq0.true)))

pub put_run-requires-clause-room : goal.put_run-requires-clause-room
put_run-requires-clause-room c = omega (arith, ap length (four_there c.args.list c.args.k (sym c.field-some.ensures ∙ c.if-some-eq15.true)), c.requires.room)

pub returns-then-some-eq15-clause-behind : goal.returns-then-some-eq15-clause-behind
returns-then-some-eq15-clause-behind c =
    omega (arith, ap length (four_there c.args.list c.args.k (sym c.field-some.ensures ∙ c.if-some-eq15.true)), c.put_run.ensures.behind)

pub returns-then-some-eq15-clause-bytes : goal.returns-then-some-eq15-clause-bytes
returns-then-some-eq15-clause-bytes c =
    c.put_run.ensures.bytes
    ∙ ap (λ (ks : List ℕ). written c.args.block.now.cells.bytes c.args.at (picked_bytes c.args.words.now ks)) (sym (four_there c.args.list c.args.k (sym c.field-some.ensures ∙ c.if-some-eq15.true)))
