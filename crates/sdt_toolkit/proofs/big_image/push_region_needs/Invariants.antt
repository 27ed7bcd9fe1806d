use Rattle.std.proofs.Common.{◌≡◌, ◌++◌, map, take}
use Rattle.sdt_toolkit.specs.RunImages as images
use Rattle.sdt_toolkit.proofs.big_image.push_region_needs.Given as goal

abbrev pub invariant-loop-region : goal.invariant-loop-region
invariant-loop-region l = l.needs.items ≡ l.fn.needs.items ++ map images.region_need (take l.region-index l.regions)
