use Rattle.std.proofs.Common.{ℕ, subst}
use Rattle.std.specs.Prelude.{Result, Ok}
use Rattle.sdt_fault.specs.declared.kinds.LineKind.{LineKind}
use Rattle.asm_model.specs.Laid.{names_behind}
use Rattle.asm_laying.specs.Laying.{AreNeeded}
use Rattle.asm_laying.proofs.LayLemmas.{told_no_map}
use Rattle.asm_laying.proofs.laying.Laying.settle_map.Goals as goal

pub returns-in-Err : goal.returns-in-Err
returns-in-Err c = λ d before reach found marked owned.
    told_no_map d c.args.statement.now before c.args.location.now c.args.extent c.in-Err.kind c.args.equal
    (subst (λ (m : Result ℕ LineKind). AreNeeded d c.args.location.now (names_behind d c.args.statement.now before) c.args.statement.now (Ok c.args.extent) m
    c.args.equal) c.in-Err.is found)

pub returns-in-Ok : goal.returns-in-Ok
returns-in-Ok c = λ d before reach found marked owned.
    c.put.ensures d before reach
    (subst (λ (m : Result ℕ LineKind). AreNeeded d c.args.location.now (names_behind d c.args.statement.now before) c.args.statement.now (Ok c.args.extent) m
    c.args.equal) c.in-Ok.is found) marked owned
