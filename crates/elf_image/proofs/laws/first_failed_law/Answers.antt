use Rattle.elf_image.proofs.CheckLaws.{first_failed_law}
use Rattle.elf_image.proofs.laws.first_failed_law.Goals as goal

pub returns : goal.returns
returns c = first_failed_law
