use Rattle.std.proofs.Common.{ap, ◌∙◌}
use Rattle.asm_model.specs.Readings.{both}
use Rattle.source_model.specs.ThumbForms.{low_two}
use Rattle.asm_instructions.specs.Lookups.{context_of}
use Rattle.asm_instructions.proofs.thumb_values.low_three.Goals as goal

pub returns : goal.returns
returns c =
    let x = context_of c.args.lookup.now in
    c.both.ensures
    ∙ ap (λ p. both p c.low.result) c.low_two.ensures
    ∙ ap (both (low_two x c.args.r.now c.args.s.now)) c.low.ensures
