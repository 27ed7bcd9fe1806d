use Rattle.std.proofs.Common.{◌≡◌, ◌-◌, ◌++◌}
use Rattle.sdt_listing.specs.Listings as listings
use Rattle.sdt_listing.proofs.listing.push_word_lines.Given as goal

abbrev pub invariant-loop-k : goal.invariant-loop-k
invariant-loop-k l = l.out.items ++ listings.word_lines l.bytes (listings.from l.k (l.end - l.k)) ≡ l.fn.out.items ++ listings.word_lines l.bytes (listings.from l.first (l.end - l.first))
