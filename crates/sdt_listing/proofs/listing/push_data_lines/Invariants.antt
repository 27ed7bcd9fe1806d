use Rattle.std.proofs.Common.{◌≡◌, ◌+◌, ◌-◌, ◌/◌, ◌++◌, length}
use Rattle.sdt_listing.specs.Listings as listings
use Rattle.sdt_listing.proofs.listing.push_data_lines.Given as goal

abbrev pub invariant-loop-k : goal.invariant-loop-k
invariant-loop-k l = l.out.items ++ listings.data_lines l.place l.bytes (listings.from l.k ((length l.bytes + 15) / 16 - l.k)) ≡ l.fn.out.items ++ listings.data_lines l.place l.bytes (listings.from 0 ((length l.bytes + 15) / 16))
