use Rattle.std.proofs.Common.{◌∙◌}
use Rattle.tool_run.proofs.NeedLemmas.{pieces_needed}
use Rattle.tool_run.proofs.burned.loaded_burn.Goals as goal

pub returns-clause-needed : goal.returns-clause-needed
returns-clause-needed c =
    let needs = rw c.as_slice.ensures at c.in_ok-needs.ensures in
    let loads = rw c.into_vec.ensures at c.in_ok-loads.ensures in
    pieces_needed c.args.burn.pieces _ _ (c.from_vec.ensures ∙ loads) (c.from_vec-2.ensures ∙ needs)
