use Rattle.std.proofs.Common.{◌*◌, ◌-◌, ◌++◌}
use Rattle.sdt_word.specs.Bytes.{word_in}
use Rattle.sdt_listing.specs.Listings.{from, word_line, word_lines}
use Rattle.sdt_listing.proofs.Lines.{more_lines}
use Rattle.sdt_listing.proofs.listing.push_word_lines.Goals as goal

pub loop-k-preserved : goal.loop-k-preserved
loop-k-preserved c =
    more_lines (λ k. word_line (4 * k) (word_in c.args.bytes.now (4 * k))) c.loop-k.out.items c.push_word_of.new.out.items (c.args.out.now.items ++ word_lines c.args.bytes.now (from c.args.first (c.args.end - c.args.first))) c.loop-k.k c.args.end
    c.loop-k-test.true c.in_ok-push_word_of.ensures c.loop-k.invariant
