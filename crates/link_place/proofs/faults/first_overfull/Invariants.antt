use Rattle.std.proofs.Common.{◌≡◌, ◌≤◌, drop, length}
use Rattle.std.specs.Prelude.{sum_by}
use Rattle.place_model.specs.Faults.{first_told, overfull}
use Rattle.link_place.specs.Checks.{judged_by}
use Rattle.link_place.proofs.faults.first_overfull.Given as goal

abbrev pub invariant-loop-load : goal.invariant-loop-load
invariant-loop-load l = record {
  so_far : first_told overfull (judged_by (drop l.load-index l.loads) l.rest) ≡ first_told overfull (judged_by l.loads l.regions);
  counts : sum_by (λ d. d.count) (drop l.load-index l.loads) ≤ length l.rest;
}
