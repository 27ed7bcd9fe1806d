use Rattle.std.proofs.Common.{◌≡◌, ◌++◌, drop, Some}
use Rattle.std.specs.List.{flat_map}
use Rattle.link_model.specs.RegionValues.{scatter_numbers, numbers_by}
use Rattle.link_values.proofs.regions.scatter_image.Given as goal

abbrev pub invariant-loop-region : goal.invariant-loop-region
invariant-loop-region l = l.numbers.items ++ flat_map scatter_numbers (drop l.region-index l.regions) ≡ numbers_by (Some l.boot) l.regions
