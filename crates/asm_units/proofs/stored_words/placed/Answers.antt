use Rattle.std.proofs.Common.{sym}
use Rattle.source_model.specs.Contexts.{sees}
use Rattle.asm_units.proofs.stored_words.placed.Goals as goal

pub returns-in-Some : goal.returns-in-Some
returns-in-Some c = λ c' labels found same. rw (c.in-Some.is, sym (c.counts_one-counts.ensures (sees c') labels found same)) c.in_area.ensures
