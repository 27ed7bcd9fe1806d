use Rattle.std.proofs.Common.{◌≡◌, ◌+◌, drop, length}
use Rattle.boot_code.specs.Startup.{copied_words}
use Rattle.armlink_core.specs.Sizes.{copies_in}
use Rattle.armlink_core.proofs.starting.copies.Given as goal

abbrev pub invariant-loop-region : goal.invariant-loop-region
invariant-loop-region l =
    (l.rows.count + length (copies_in (drop l.region-index l.regions)) ≡ length (copies_in l.regions))
    × (l.rows.words + copied_words (copies_in (drop l.region-index l.regions)) ≡ copied_words (copies_in l.regions))
