use Rattle.std.proofs.Common.{refl}
use Rattle.elf_image.specs.Reading.{count_of, elf_of}
use Rattle.elf_image.proofs.laws.worked_example.Goals as goal

pub returns : goal.returns
unfolding elf_of count_of
returns c = record { header = refl; load = refl; size = refl; cut = refl }
