use Rattle.std.proofs.Common.{sym}
use Rattle.source_model.specs.Contexts.{value_of}
use Rattle.asm_instructions.specs.Lookups.{context_of}
use Rattle.asm_instructions.proofs.ContextLemmas.{value_seen}
use Rattle.asm_instructions.proofs.LoneLemmas.{lone_number}
use Rattle.asm_instructions.proofs.values.value_there.Goals as goal

pub returns-in-Some : goal.returns-in-Some
returns-in-Some c = sym (lone_number c.args.lookup.now c.args.e.now c.in-Some.number (rw c.in-Some.is at c.lone_number.ensures))

pub returns-in-None : goal.returns-in-None
returns-in-None c =
    c.told_value.ensures (value_of (context_of c.args.lookup.now) c.args.e.now)
    (value_seen c.args.lookup.now c.args.e.now c.final_value.result c.requires c.final_value.ensures)
