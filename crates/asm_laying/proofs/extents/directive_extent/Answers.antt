use Rattle.asm_model.specs.OccupiedCode.{occupied_of_code}
use Rattle.asm_model.proofs.PartLemmas.{occupied_said}
use Rattle.asm_expr.specs.Seeing.{seen_names}
use Rattle.asm_laying.proofs.TakenLemmas.{occupied_taken}
use Rattle.asm_laying.proofs.extents.directive_extent.Goals as goal

pub occupied_extent-requires : goal.occupied_extent-requires
occupied_extent-requires c = occupied_said c.args.line.now (occupied_of_code c.occupied_by.result) c.requires c.occupied_by.ensures

pub returns : goal.returns
returns c =
    occupied_taken (seen_names c.args.seen.now) c.args.line.now (occupied_of_code c.occupied_by.result) c.occupied_extent.result
    c.occupied_by.ensures c.occupied_extent.ensures
