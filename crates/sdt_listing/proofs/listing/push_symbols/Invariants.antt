use Rattle.std.proofs.Common.{◌≡◌, ◌++◌, drop, flat_map}
use Rattle.sdt_listing.specs.Listings as listings
use Rattle.sdt_listing.proofs.listing.push_symbols.Given as goal

abbrev pub invariant-loop-symbol : goal.invariant-loop-symbol
invariant-loop-symbol l = l.out.items ++ flat_map (listings.symbol_line l.areas) (drop l.symbol-index l.symbols) ≡ l.fn.out.items ++ flat_map (listings.symbol_line l.areas) l.symbols
