use Rattle.elf_image.proofs.SectionLemmas.{sections_law}
use Rattle.elf_image.proofs.laws.sections_law.Goals as goal

pub returns : goal.returns
returns c = sections_law
