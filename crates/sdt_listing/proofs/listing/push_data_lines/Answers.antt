use Rattle.std.proofs.Common.{◌+◌, ◌*◌, ◌/◌, ◌<◌, ◌++◌, length, take, drop, arith}
use Rattle.sdt_listing.specs.Listings.{data_line, data_lines, from}
use Rattle.sdt_listing.proofs.Lines.{more_lines}
use Rattle.sdt_listing.proofs.listing.push_data_lines.Goals as goal

pub loop-k-preserved : goal.loop-k-preserved
loop-k-preserved c =
    let count = (length c.args.bytes.now + 15) / 16 in
    let within : c.loop-k.k < (length c.args.bytes.now + 15) / 16 = omega arith in
    more_lines (λ k. data_line (c.args.place + 16 * k) (take 16 (drop (16 * k) c.args.bytes.now))) c.loop-k.out.items c.push_data_of.new.out.items (c.args.out.now.items ++ data_lines c.args.place c.args.bytes.now (from 0 count)) c.loop-k.k count
    within c.in_ok-push_data_of.ensures c.loop-k.invariant
