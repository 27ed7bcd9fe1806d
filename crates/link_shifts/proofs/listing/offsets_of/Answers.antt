use Rattle.std.proofs.Common.{◌+◌}
use Rattle.link_shifts.specs.Changes.{times_in}
use Rattle.link_shifts.proofs.ChangeLemmas.{word_pushed}
use Rattle.link_shifts.proofs.listing.offsets_of.Goals as goal

pub loop-word-preserved : goal.loop-word-preserved
loop-word-preserved c =
    word_pushed (λ at. times_in c.args.changes.now (c.args.base + at)) c.loop-word.word c.args.words c.loop-word.offsets.items c.push_word.new.offsets.items _
    c.loop-word-test.true c.in_ok-push_word.ensures c.loop-word.invariant
