use Rattle.std.proofs.Common.{◌≡◌, ◌++◌, ◌-◌}
use Rattle.link_assign.specs.Assigning.{lists_kept}
use Rattle.link_assign.proofs.listing.lists_of_regions.Given as goal

abbrev pub invariant-loop-region : goal.invariant-loop-region
invariant-loop-region l = l.lists.items ++ lists_kept l.kept l.region (l.regions - l.region) ≡ lists_kept l.kept 0 l.regions
