use Rattle.elf_image.proofs.CheckLaws.{one_record}
use Rattle.elf_image.proofs.laws.one_record.Goals as goal

pub returns : goal.returns
returns c = one_record
