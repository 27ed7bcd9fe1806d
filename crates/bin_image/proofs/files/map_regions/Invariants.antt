use Rattle.std.proofs.Common.{◌≡◌, take, map}
use Rattle.bin_image.specs.Files.{map_region}
use Rattle.bin_image.proofs.files.map_regions.Given as goal

abbrev pub invariant-loop-region : goal.invariant-loop-region
invariant-loop-region l = l.mapped.items ≡ map map_region (take l.region-index l.regions)
