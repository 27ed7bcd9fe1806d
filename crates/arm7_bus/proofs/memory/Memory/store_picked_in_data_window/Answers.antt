use Rattle.std.proofs.Common.{refl, ◌*◌, arith}
use Rattle.arm7_bus.proofs.StoreLemmas.{words_more}
use Rattle.arm7_bus.proofs.WindowLemmas.{data_free, data_has, data_stored, frames_same, window_stored}
use Rattle.arm7_bus.proofs.memory.Memory.store_picked_in_data_window.Goals as goal

pub invariant_of-self : goal.invariant_of-self
invariant_of-self c =
    let m = c.args.self.now in
    let within = c.requires.within in
    let has = data_has _ _ _ _ c.args.a (4 * c.args.n) m.stored c.requires.page (omega arith) within in
    record {
      apart = m.apart;
      fetched = window_stored _ _ _ _ _ m.fetched (frames_same _ _ c.put_picked_from.ensures.table);
      stored = data_stored _ _ _ _ _ m.stored (frames_same _ _ c.put_picked_from.ensures.table);
      in_banks = λ e. words_more m.banks.items c.args.a c.args.n _ _ (omega arith) has c.note_words.ensures (m.in_banks e);
    }

pub returns : goal.returns
returns c =
    let m = c.args.self.now in
    record {
      has = data_has _ _ _ _ c.args.a (4 * c.args.n) m.stored c.requires.page (omega arith) c.requires.within;
      free = data_free _ _ _ _ c.args.a (4 * c.args.n) m.stored c.requires.page (omega arith) c.requires.within;
      used = c.put_picked_from.ensures.used;
      within = c.requires.within;
      after = rw (c.note_words.ensures, c.put_picked_from.ensures.memory, c.put_picked_from.ensures.table, c.put_picked_from.ensures.counts.1) refl;
    }
