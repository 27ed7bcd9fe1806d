use Rattle.boot_code.proofs.WordsRead.{boot_reads, zero_reads, relocator_reads}
use Rattle.boot_code.proofs.laws.words_read.Goals as goal

pub returns : goal.returns
returns c = record { boot = boot_reads; zero = zero_reads; relocator = relocator_reads }
