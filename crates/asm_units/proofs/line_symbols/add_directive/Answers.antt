use Rattle.asm_units.proofs.line_symbols.add_directive.Goals as goal

pub returns-in-Constants : goal.returns-in-Constants
returns-in-Constants c = rw c.in-Constants.is (rw (c.held_by.ensures, c.as_slice.ensures) at c.add_held.ensures)
