use Rattle.elf_image.proofs.CheckLaws.{elf_law}
use Rattle.elf_image.proofs.laws.elf_law.Goals as goal

pub returns : goal.returns
returns c = elf_law
