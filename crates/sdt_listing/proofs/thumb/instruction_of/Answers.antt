use Rattle.sdt_listing.proofs.ThumbReadings.{decoded}
use Rattle.sdt_listing.proofs.thumb.instruction_of.Goals as goal

pub returns-clause-value : goal.returns-clause-value
returns-clause-value c = decoded c.args.h c.decode_thumb.result c.decode_thumb.ensures.found c.decode_thumb.ensures.only
