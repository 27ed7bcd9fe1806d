use Rattle.std.proofs.Common.{◌≡◌, ◌++◌, drop}
use Rattle.link_apply.specs.Rows.{zeros_of}
use Rattle.link_apply.proofs.startup.all_zeros.Given as goal

abbrev pub invariant-loop-region : goal.invariant-loop-region
invariant-loop-region l = l.rows.items ++ zeros_of (drop l.region-index l.regions) ≡ zeros_of l.regions
