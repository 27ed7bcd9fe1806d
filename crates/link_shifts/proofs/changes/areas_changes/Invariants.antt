use Rattle.std.proofs.Common.{ℕ, drop}
use Rattle.link_model.specs.Members.{link_of}
use Rattle.link_shifts.specs.Balances.{none}
use Rattle.link_shifts.specs.Changes.{areas_change, change_in, Leaves}
use Rattle.link_shifts.proofs.changes.areas_changes.Given as goal

abbrev pub invariant-loop-placed : goal.invariant-loop-placed
invariant-loop-placed l =
    let change = areas_change (link_of l.image.linked.now) l.image.placement.now in
    (x : ℕ) → Leaves none (change x l.areas) (change_in l.changes x) (change x (drop l.placed-index l.areas))
