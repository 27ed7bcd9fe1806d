use Rattle.elf_image.proofs.NamedLemmas.{reads}
use Rattle.elf_image.proofs.laws.named_law.Goals as goal

pub returns : goal.returns
returns c = reads
