use Rattle.std.proofs.Common.{◌≡◌, ◌++◌, drop}
use Rattle.std.specs.List.{flat_map}
use Rattle.bin_image.specs.Maps.{ended, region_line}
use Rattle.bin_image.proofs.writing.push_regions.Given as goal

abbrev pub invariant-loop-region : goal.invariant-loop-region
invariant-loop-region l =
    l.out.items ++ flat_map (λ region. ended (region_line region)) (drop l.region-index l.regions)
    ≡ l.initial.out.items ++ flat_map (λ region. ended (region_line region)) l.regions
