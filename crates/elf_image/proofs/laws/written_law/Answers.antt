use Rattle.elf_image.proofs.WrittenLemmas.{written}
use Rattle.elf_image.proofs.laws.written_law.Goals as goal

pub returns : goal.returns
returns c = written
