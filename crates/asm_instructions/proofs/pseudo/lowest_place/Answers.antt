use Rattle.source_model.specs.PseudoForms.{places, lowest_among}
use Rattle.asm_instructions.proofs.PlaceLemmas.{pair_skipped, pair_found}
use Rattle.asm_instructions.proofs.pseudo.lowest_place.Goals as goal

pub returns-then-number-pair-ne0 : goal.returns-then-number-pair-ne0
returns-then-number-pair-ne0 c =
    pair_found c.args.number c.pairs.pair (lowest_among places c.args.number) c.pairs-test.true c.if-number-pair-ne0.true c.pairs.invariant

pub pairs-preserved : goal.pairs-preserved
pairs-preserved c =
    pair_skipped c.args.number c.pairs.pair (lowest_among places c.args.number) c.pairs-test.true c.if-number-pair-ne0.false c.pairs.invariant
