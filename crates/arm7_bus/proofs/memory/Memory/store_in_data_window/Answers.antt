use Rattle.std.proofs.Common.{refl, ap, ◌∙◌, ◌/◌, is_some, arith}
use Rattle.sdt_word.specs.Codes.{bytes_in}
use Rattle.arm7_bus.proofs.PagingLemmas.{in_page, used_at}
use Rattle.arm7_bus.proofs.StoreLemmas.{one_within}
use Rattle.arm7_bus.proofs.WindowLemmas.{data_free, data_has, data_place, data_stored, frames_same, window_stored}
use Rattle.arm7_bus.proofs.memory.Memory.store_in_data_window.Goals as goal

pub invariant_of-self : goal.invariant_of-self
invariant_of-self c =
    let m = c.args.self.now in
    let has = data_has _ _ _ _ c.args.a (bytes_in c.args.width) m.stored c.requires.page (omega arith) (in_page c.args.width c.args.a c.requires.aligned) in
    record {
      apart = m.apart;
      fetched = window_stored _ _ _ _ _ m.fetched (frames_same _ _ c.put_from.ensures.table);
      stored = data_stored _ _ _ _ _ m.stored (frames_same _ _ c.put_from.ensures.table);
      in_banks = λ e. one_within m.banks.items c.args.a (bytes_in c.args.width) _ _ c.note.ensures has (m.in_banks e);
    }

pub returns-clause-has : goal.returns-clause-has
returns-clause-has c =
    let m = c.args.self.now in
    data_has _ _ _ _ c.args.a (bytes_in c.args.width) m.stored c.requires.page (omega arith) (in_page c.args.width c.args.a c.requires.aligned)

pub returns-clause-fault : goal.returns-clause-fault
returns-clause-fault c =
    let m = c.args.self.now in
    let inside = in_page c.args.width c.args.a c.requires.aligned in
    let frame = (data_place _ _ _ _ c.args.a _ m.stored c.requires.page (omega arith) refl).0 in
    rw (data_free _ _ _ _ c.args.a (bytes_in c.args.width) m.stored c.requires.page (omega arith) inside, used_at m.pages.table (c.args.a / 4096) ∙ ap is_some frame) refl

pub returns-clause-after : goal.returns-clause-after
returns-clause-after c = rw (c.note.ensures, c.put_from.ensures.memory, c.put_from.ensures.used, c.put_from.ensures.counts.1) refl
