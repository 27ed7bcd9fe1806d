use Rattle.std.proofs.Common.{refl, sym, ◌∙◌, ◌*◌, arith}
use Rattle.arm7_bus.proofs.LookupLemmas.{has_at}
use Rattle.arm7_bus.proofs.StoreLemmas.{words_more}
use Rattle.arm7_bus.proofs.WindowLemmas.{data_stored, frames_same, window_stored}
use Rattle.arm7_bus.proofs.memory.Memory.store_picked.Goals as goal

pub invariant_of-self : goal.invariant_of-self
invariant_of-self c =
    let m = c.args.self.now in
    let within = c.requires.within in
    let has = has_at m.banks.items m.last c.args.a (4 * c.args.n) c.requires.found in
    record {
      apart = m.apart;
      fetched = window_stored _ _ _ _ _ m.fetched (frames_same _ _ c.put_picked_from.ensures.table);
      stored = data_stored _ _ _ _ _ m.stored (frames_same _ _ c.put_picked_from.ensures.table);
      in_banks = λ e. words_more m.banks.items c.args.a c.args.n _ _ (omega arith) has c.note_words.ensures (m.in_banks e);
    }

pub returns-in-Some-clause-stored : goal.returns-in-Some-clause-stored
returns-in-Some-clause-stored c = λ _.
    let m = c.args.self.now in
    record {
      has = has_at m.banks.items m.last c.args.a (4 * c.args.n) c.requires.found;
      free = sym c.last_protects.ensures ∙ c.if-last_protects.false;
      used = c.put_picked_from.ensures.used;
      within = c.requires.within;
      after = rw (c.note_words.ensures, c.put_picked_from.ensures.memory, c.put_picked_from.ensures.table, c.put_picked_from.ensures.counts.1) refl;
    }
