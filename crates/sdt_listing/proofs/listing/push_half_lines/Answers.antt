use Rattle.std.proofs.Common.{◌*◌, ◌/◌, ◌++◌, length}
use Rattle.sdt_word.specs.Bytes.{half_in}
use Rattle.sdt_listing.specs.Listings.{from, half_line, half_lines}
use Rattle.sdt_listing.proofs.Lines.{more_lines}
use Rattle.sdt_listing.proofs.listing.push_half_lines.Goals as goal

pub loop-k-preserved : goal.loop-k-preserved
loop-k-preserved c =
    let count = length c.args.bytes.now / 2 in
    more_lines (λ k. half_line (2 * k) (half_in c.args.bytes.now (2 * k))) c.loop-k.out.items c.push_half_of.new.out.items (c.args.out.now.items ++ half_lines c.args.bytes.now (from 0 count)) c.loop-k.k count
    c.loop-k-test.true c.in_ok-push_half_of.ensures c.loop-k.invariant
