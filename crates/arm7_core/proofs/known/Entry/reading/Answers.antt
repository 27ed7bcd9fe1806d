use Rattle.arm7_core.proofs.ReadingLemmas.{reads_known}
use Rattle.arm7_core.proofs.known.Entry.reading.Goals as goal

pub returns : goal.returns
returns c = reads_known c.args.word _ _ c.holds.new.self.reads (c.holds.ensures.word c.if-not-holds.false)
