use Rattle.sdt_listing.proofs.ThumbReadings.{as_instruction, as_data}
use Rattle.sdt_listing.proofs.thumb.print_thumb.Goals as goal

pub returns-clause-instruction : goal.returns-clause-instruction
returns-clause-instruction c = as_instruction c.args.at c.args.h c.half_listed.result c.half_listed.ensures

pub returns-clause-unread : goal.returns-clause-unread
returns-clause-unread c = as_data c.args.at c.args.h c.half_listed.result c.half_listed.ensures
