use Rattle.std.proofs.Common.{◌≡◌, ◌++◌, drop, map}
use Rattle.link_symbols.specs.Symbols.{region_symbol}
use Rattle.link_symbols.proofs.tables.push_regions.Given as goal

abbrev pub invariant-loop-region : goal.invariant-loop-region
invariant-loop-region l = l.out.items ++ map region_symbol (drop l.region-index l.regions) ≡ l.fn.out.items ++ map region_symbol l.regions
