use Rattle.std.proofs.Common.{◌≡◌, ◌++◌, drop, map}
use Rattle.std.specs.List.{flat_map}
use Rattle.link_model.specs.RegionNames.{scatter_names}
use Rattle.armlink_core.proofs.symbols.add_regions.Given as goal

abbrev pub invariant-loop-region : goal.invariant-loop-region
invariant-loop-region l =
    l.names.items ++ flat_map scatter_names (map (λ r. r.name) (drop l.region-index l.regions))
    ≡ l.initial.names.items ++ flat_map scatter_names (map (λ r. r.name) l.regions)
