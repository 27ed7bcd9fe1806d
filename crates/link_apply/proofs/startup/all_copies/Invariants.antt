use Rattle.std.proofs.Common.{◌≡◌, ◌++◌, drop}
use Rattle.link_apply.specs.Rows.{copies_of}
use Rattle.link_apply.proofs.startup.all_copies.Given as goal

abbrev pub invariant-loop-region : goal.invariant-loop-region
invariant-loop-region l = l.rows.items ++ copies_of (drop l.region-index l.regions) ≡ copies_of l.regions
