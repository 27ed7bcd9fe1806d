use Rattle.std.proofs.Common.{sym, ◌∙◌}
use Rattle.armasm_core.proofs.FaultLemmas.{area_missing_beside}
use Rattle.armasm_core.proofs.source_layout.laid_out.Goals as goal

pub returns : goal.returns
returns c =
    area_missing_beside c.args.source.now c.args.flats.now c.args.reading.now c.in-Err.fault c.area_missing_beside.result
    (sym c.has_area.ensures ∙ c.if-has_area.false) c.in-Err.ensures c.area_missing_beside.ensures
