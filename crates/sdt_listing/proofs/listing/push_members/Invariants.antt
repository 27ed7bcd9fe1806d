use Rattle.std.proofs.Common.{◌≡◌, ◌++◌, drop, flat_map}
use Rattle.sdt_listing.specs.Listings as listings
use Rattle.sdt_listing.proofs.listing.push_members.Given as goal

abbrev pub invariant-loop-member : goal.invariant-loop-member
invariant-loop-member l = l.out.items ++ flat_map listings.member_text (drop l.member-index l.members) ≡ l.fn.out.items ++ flat_map listings.member_text l.members
