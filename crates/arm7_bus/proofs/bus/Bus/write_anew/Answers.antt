use Rattle.std.proofs.Common.{◌≡◌, true, None, refl, ap, subst, ◌∙◌}
use Rattle.sdt_word.specs.Codes.{bytes_in}
use Rattle.arm7_bus.specs.States.{Contents, after_store, bank_has, store_fault}
use Rattle.arm7_bus.proofs.bus.Bus.write_anew.Goals as goal

pub returns-then-move_data_window-clause-after : goal.returns-then-move_data_window-clause-after
returns-then-move_data_window-clause-after g c =
    let same = c.move_data_window.ensures.same ∙ c.finds.ensures.same in
    let store = c.store_in_data_window.ensures in
    let n = bytes_in c.args.w in
    rw (
      subst (λ (s : Contents). bank_has s.banks c.args.a n ≡ true) same store.has,
      subst (λ (s : Contents). store_fault s c.args.a n ≡ None) same store.fault,
      store.after ∙ ap (λ (s : Contents). after_store s c.args.a c.args.w c.args.v) same,
    ) refl
