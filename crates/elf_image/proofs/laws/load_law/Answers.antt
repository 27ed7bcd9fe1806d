use Rattle.elf_image.proofs.WrittenLemmas.{loads}
use Rattle.elf_image.proofs.laws.load_law.Goals as goal

pub returns : goal.returns
returns c = loads
