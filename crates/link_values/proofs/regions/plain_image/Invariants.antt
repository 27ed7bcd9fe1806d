use Rattle.std.proofs.Common.{◌≡◌, ◌++◌, drop}
use Rattle.std.specs.List.{flat_map}
use Rattle.link_model.specs.RegionValues.{plain_numbers}
use Rattle.link_values.proofs.regions.plain_image.Given as goal

abbrev pub invariant-loop-region : goal.invariant-loop-region
invariant-loop-region l = l.numbers.items ++ flat_map plain_numbers (drop l.region-index l.regions) ≡ flat_map plain_numbers l.regions
