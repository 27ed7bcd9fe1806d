use Rattle.std.proofs.Common.{◌≡◌, map}
use Rattle.link_apply.specs.RegionBytes.{filled_up}
use Rattle.link_apply.proofs.laying.all_finished.Given as goal

abbrev pub invariant-growing : goal.invariant-growing
invariant-growing l = l.all.items ≡ map (λ g. filled_up g.length g.bytes.items) l.yielded
