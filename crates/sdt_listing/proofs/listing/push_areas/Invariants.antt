use Rattle.std.proofs.Common.{◌≡◌, ◌++◌, drop, flat_map}
use Rattle.sdt_listing.specs.Listings as listings
use Rattle.sdt_listing.proofs.listing.push_areas.Given as goal

abbrev pub invariant-loop-area : goal.invariant-loop-area
invariant-loop-area l = l.out.items ++ flat_map listings.area_text (drop l.area-index l.areas) ≡ l.fn.out.items ++ flat_map listings.area_text l.areas
