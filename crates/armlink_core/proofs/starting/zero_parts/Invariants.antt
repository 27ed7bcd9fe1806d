use Rattle.std.proofs.Common.{◌≡◌, ◌+◌, drop, length}
use Rattle.boot_code.specs.Startup.{zeroed_words}
use Rattle.armlink_core.specs.Sizes.{zeros_in}
use Rattle.armlink_core.proofs.starting.zero_parts.Given as goal

abbrev pub invariant-loop-region : goal.invariant-loop-region
invariant-loop-region l =
    (l.rows.count + length (zeros_in (drop l.region-index l.regions)) ≡ length (zeros_in l.regions))
    × (l.rows.words + zeroed_words (zeros_in (drop l.region-index l.regions)) ≡ zeroed_words (zeros_in l.regions))
