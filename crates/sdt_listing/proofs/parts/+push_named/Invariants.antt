use Rattle.std.proofs.Common.{◌-◌}
use Rattle.sdt_listing.proofs.parts.+push_named.Given as goal

abbrev pub decreases-push_named : goal.decreases-push_named
decreases-push_named l = l.count - l.k
