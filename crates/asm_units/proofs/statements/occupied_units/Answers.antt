use Rattle.asm_units.proofs.statements.occupied_units.Goals as goal

pub held_units-requires : goal.held_units-requires
held_units-requires c = rw c.in-Items.is at c.requires

pub returns-in-Items : goal.returns-in-Items
returns-in-Items c = rw c.in-Items.is (rw c.held_by.ensures at c.held_units.ensures)
