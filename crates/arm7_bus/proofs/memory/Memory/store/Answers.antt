use Rattle.sdt_word.specs.Codes.{bytes_in}
use Rattle.arm7_bus.proofs.StoreLemmas.{one_more}
use Rattle.arm7_bus.proofs.WindowLemmas.{data_stored, window_stored}
use Rattle.arm7_bus.proofs.memory.Memory.store.Goals as goal

pub invariant_of-self-2 : goal.invariant_of-self-2
invariant_of-self-2 c = record {
  apart = c.args.self.now.apart;
  fetched = window_stored _ _ _ _ _ c.args.self.now.fetched c.write.ensures.frames;
  stored = data_stored _ _ _ _ _ c.args.self.now.stored c.write.ensures.frames;
  in_banks = λ e. one_more c.args.self.now.banks.items c.args.self.now.last c.args.a (bytes_in c.args.width) _ _ c.note.ensures c.requires.found (c.args.self.now.in_banks e);
}
