use Rattle.std.proofs.Common.{ap, ◌∙◌}
use Rattle.asm_model.specs.Extents.{occupied_alignment}
use Rattle.asm_laying.proofs.areas.directive_alignment.Goals as goal

pub returns-clause-alignment : goal.returns-clause-alignment
returns-clause-alignment c =
    λ literals e. c.occupied_alignment.ensures.alignment literals e ∙ ap (occupied_alignment c.args.thumb literals) c.occupied_by.ensures
