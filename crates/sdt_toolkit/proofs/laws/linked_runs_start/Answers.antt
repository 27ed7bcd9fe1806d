use Rattle.sdt_toolkit.proofs.RunLinked.{linked_runs_start}
use Rattle.sdt_toolkit.proofs.laws.linked_runs_start.Goals as goal

pub returns : goal.returns
returns c = linked_runs_start c.files_are_read.ensures c.elf_law.ensures c.elf_load_law.ensures c.aif_law.ensures c.commands_start.ensures
