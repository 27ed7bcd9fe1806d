use Rattle.sdt_listing.proofs.ArmReadings.{as_instruction, as_data}
use Rattle.sdt_listing.proofs.arm.print_arm.Goals as goal

pub returns-clause-instruction : goal.returns-clause-instruction
returns-clause-instruction c = as_instruction c.args.at c.args.w c.word_listed.result c.word_listed.ensures

pub returns-clause-unread : goal.returns-clause-unread
returns-clause-unread c = as_data c.args.at c.args.w c.word_listed.result c.word_listed.ensures
