use Rattle.std.proofs.Common.{refl, ◌∙◌}
use Rattle.arm7_bus.proofs.PagingLemmas.{fresh-memory, unused_at, used_counted, used_length}
use Rattle.arm7_bus.proofs.memory.Memory.start.Goals as goal

pub returns-clause-ok : goal.returns-clause-ok
returns-clause-ok c =
    let u = c.in_ok-pages.ensures.table in
    record {
      banks = refl;
      memory = fresh-memory c.in_ok-pages.pages.table c.in_ok-pages.pages.frames 1048576 c.args.self.now.pages.table c.args.self.now.pages.frames u c.requires;
      stores = refl;
      pages = used_length c.in_ok-pages.pages.table ∙ u.pages;
      unused = λ page. unused_at c.in_ok-pages.pages.table 1048576 page u;
      count = used_counted c.in_ok-pages.pages.table ∙ u.count;
      frames = c.in_ok-pages.ensures.room ∙ (rw c.deref.ensures.value at c.frames_for-room.ensures);
    }
