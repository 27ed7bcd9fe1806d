use Rattle.irq_kit.proofs.KitWords.{given-transparent}
use Rattle.irq_kit.proofs.object.kit_object.Goals as goal

pub returns-clause-transparent : goal.returns-clause-transparent
returns-clause-transparent c = given-transparent c.runs_are_transparent.ensures c.args.ack c.requires c.ranges.ack.fits c.whole.result c.whole.ensures.exact
