use Rattle.sdt_outside.specs.Counts.{Rose}
use Rattle.tool_run.proofs.ReadLemmas.{elf_refused}
use Rattle.tool_run.proofs.image.read_elf_file.Goals as goal

pub returns-clause-read : goal.returns-clause-read
returns-clause-read g c =
    rw c.fault_end.ensures (elf_refused c.in-Err-elf_image.fault (g.S.Store.files c.args.store.now) (Rose (g.S.Store.read_faults c.args.store.now) (g.S.Store.read_faults c.read_input.new.store))
    c.args.file.now c.in-Ok.bytes c.in-Ok.ensures.found (rw c.as_slice.ensures at c.in-Err-elf_image.ensures.exact))
