use Rattle.asm_sets.proofs.SetLemmas.{entry_added, found_more}
use Rattle.asm_sets.proofs.maps.NameMap.add.Goals as goal

pub returns-clause-more : goal.returns-clause-more
returns-clause-more g c =
    rw (← c.self.view_is)
    (entry_added c.self.inside.entries c.args.name.now c.in_ok-name.name c.args.value c.insert.new.self.entries c.in_ok-name.ensures
    (rw (c.self.view_is) c.requires) c.in_ok-insert.ensures.entries)

pub returns-clause-found : goal.returns-clause-found
returns-clause-found g c =
    rw (← c.self.view_is)
    (found_more c.self.inside.entries.entries c.insert.new.self.entries c.args.name.now c.in_ok-name.name c.args.value c.in_ok-name.ensures
    c.in_ok-insert.ensures.updates.0)
