use Rattle.std.proofs.Common.{subst}
use Rattle.std.specs.Prelude.{Result}
use Rattle.sdt_fault.specs.declared.kinds.LineKind.{LineKind}
use Rattle.asm_offsets.specs.declared.extents.Extent.{Extent}
use Rattle.asm_model.specs.Laid.{names_behind}
use Rattle.asm_laying.specs.Laying.{AreNeeded, OkExtent}
use Rattle.asm_laying.proofs.LayLemmas.{told_no_extent}
use Rattle.asm_laying.proofs.laying.Laying.settle.Goals as goal

pub returns-in-Err : goal.returns-in-Err
returns-in-Err c = λ d before reach found marked owned.
    told_no_extent d c.args.statement.now before c.args.location.now c.in-Err.kind c.args.map c.args.equal
    (subst (λ (e : Result Extent LineKind). AreNeeded d c.args.location.now (names_behind d c.args.statement.now before) c.args.statement.now e c.args.map
    c.args.equal) c.in-Err.is found)

pub settle_map-requires-clause-extent : goal.settle_map-requires-clause-extent
settle_map-requires-clause-extent c = subst (λ (e : Result Extent LineKind). OkExtent e) c.in-Ok.is c.requires.extent

pub returns-in-Ok : goal.returns-in-Ok
returns-in-Ok c = λ d before reach found marked owned.
    c.settle_map.ensures d before reach
    (subst (λ (e : Result Extent LineKind). AreNeeded d c.args.location.now (names_behind d c.args.statement.now before) c.args.statement.now e c.args.map
    c.args.equal) c.in-Ok.is found) marked owned
