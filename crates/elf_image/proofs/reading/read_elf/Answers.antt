use Rattle.chunk_file.proofs.Guards.{found, only}
use Rattle.elf_image.specs.Checks.{ReadsElf}
use Rattle.elf_image.specs.Reading.{elf_of}
use Rattle.elf_image.proofs.CheckLaws.{elf_law, first_failed}
use Rattle.elf_image.proofs.reading.read_elf.Goals as goal

pub returns-clause-found : goal.returns-clause-found
returns-clause-found c = found c.elf.result (elf_of c.args.bytes.now) (ReadsElf c.args.bytes.now) (elf_law c.args.bytes.now) c.elf.ensures

pub returns-clause-only : goal.returns-clause-only
returns-clause-only c = only c.elf.result (elf_of c.args.bytes.now) (ReadsElf c.args.bytes.now) (elf_law c.args.bytes.now) c.elf.ensures

pub returns-clause-first_failed : goal.returns-clause-first_failed
returns-clause-first_failed c = first_failed c.args.bytes.now c.elf.result c.elf.ensures
