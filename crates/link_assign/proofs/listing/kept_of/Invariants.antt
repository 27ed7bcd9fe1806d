use Rattle.std.proofs.Common.{◌≡◌, ◌++◌, map, drop}
use Rattle.link_assign.specs.Shown.{kept_in, shown_kept}
use Rattle.link_assign.proofs.listing.kept_of.Given as goal

abbrev pub invariant-loop-one : goal.invariant-loop-one
invariant-loop-one l = map shown_kept l.here.items ++ kept_in l.region (drop l.one-index l.kept) ≡ kept_in l.region l.kept
