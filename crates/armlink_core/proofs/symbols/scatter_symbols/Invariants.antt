use Rattle.std.proofs.Common.{◌≡◌, ◌++◌, drop, map}
use Rattle.std.specs.List.{flat_map}
use Rattle.link_model.specs.RegionNames.{scatter_names, names_of_scatter}
use Rattle.armlink_core.proofs.symbols.scatter_symbols.Given as goal

abbrev pub invariant-loop-load : goal.invariant-loop-load
invariant-loop-load l =
    l.names.items ++ flat_map scatter_names (map (λ r. r.name) (flat_map (λ m. m.regions) (drop l.load-index l.loads)))
    ≡ names_of_scatter (map (λ r. r.name) (flat_map (λ m. m.regions) l.loads))
