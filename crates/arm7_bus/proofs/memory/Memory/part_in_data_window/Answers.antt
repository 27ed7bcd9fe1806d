use Rattle.std.proofs.Common.{◌+◌, ◌%◌, ◌≤◌, arith}
use Rattle.std.proofs.lemmas.Option.{IfSome_then}
use Rattle.arm7_bus.proofs.WindowLemmas.{data_has}
use Rattle.arm7_bus.proofs.memory.Memory.part_in_data_window.Goals as goal

pub returns : goal.returns
returns c =
    let inside : c.args.a % 4096 + c.args.n ≤ 4096 = omega arith in
    IfSome_then c.part_from.result c.part_from.ensures (λ part e. record {
      are = e;
      held = data_has _ _ _ _ c.args.a c.args.n c.args.self.now.stored c.requires.page (omega arith) inside;
      within = inside;
    })
