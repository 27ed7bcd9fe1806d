use Rattle.std.proofs.Common.{arith}
use Rattle.sdt_word.specs.Codes.{bytes_in}
use Rattle.arm7_bus.proofs.PagingLemmas.{in_page}
use Rattle.arm7_bus.proofs.WindowLemmas.{data_has}
use Rattle.arm7_bus.proofs.memory.Memory.read_in_data_window.Goals as goal

pub returns-clause-has : goal.returns-clause-has
returns-clause-has c =
    let m = c.args.self.now in
    data_has _ _ _ _ c.args.a (bytes_in c.args.width) m.stored c.requires.page (omega arith) (in_page c.args.width c.args.a c.requires.aligned)
