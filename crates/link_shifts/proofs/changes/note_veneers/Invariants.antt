use Rattle.std.proofs.Common.{ℕ, drop}
use Rattle.link_shifts.specs.Changes.{change_in, veneers_change, Leaves}
use Rattle.link_shifts.proofs.changes.note_veneers.Given as goal

abbrev pub invariant-loop-placed : goal.invariant-loop-placed
invariant-loop-placed l =
    (x : ℕ) → Leaves (change_in l.initial.changes x) (veneers_change x l.veneers) (change_in l.changes x) (veneers_change x (drop l.placed-index l.veneers))
