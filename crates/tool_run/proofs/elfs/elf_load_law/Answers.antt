use Rattle.tool_run.proofs.ElfLemmas.{elf_loads}
use Rattle.tool_run.proofs.elfs.elf_load_law.Goals as goal

pub returns : goal.returns
returns c = elf_loads
