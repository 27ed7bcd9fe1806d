use Rattle.elf_image.proofs.SymbolLemmas.{symbols_law}
use Rattle.elf_image.proofs.laws.symbols_law.Goals as goal

pub returns : goal.returns
returns c = symbols_law
