use Rattle.arm7_core.proofs.ReadingLemmas.{half_known}
use Rattle.arm7_core.proofs.halves.Entry.reading.Goals as goal

pub returns : goal.returns
returns c = half_known c.args.word _ _ c.holds.new.self.reads (c.holds.ensures.half c.if-not-holds.false)
