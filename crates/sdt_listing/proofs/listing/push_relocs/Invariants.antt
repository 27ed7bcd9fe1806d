use Rattle.std.proofs.Common.{◌≡◌, ◌++◌, drop, flat_map}
use Rattle.sdt_listing.specs.Listings as listings
use Rattle.sdt_listing.proofs.listing.push_relocs.Given as goal

abbrev pub invariant-loop-reloc : goal.invariant-loop-reloc
invariant-loop-reloc l = l.out.items ++ flat_map listings.reloc_line (drop l.reloc-index l.relocs) ≡ l.fn.out.items ++ flat_map listings.reloc_line l.relocs
