use Rattle.elf_image.proofs.NamedLemmas.{loads}
use Rattle.elf_image.proofs.laws.named_load_law.Goals as goal

pub returns : goal.returns
returns c = loads
