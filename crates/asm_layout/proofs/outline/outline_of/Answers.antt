use Rattle.std.proofs.Common.{◌∙◌, []}
use Rattle.asm_model.specs.Laid.{reversed}
use Rattle.asm_layout.proofs.OutlineLemmas.{marks_are}
use Rattle.asm_layout.proofs.outline.outline_of.Goals as goal

pub returns-in-Ok-states_of : goal.returns-in-Ok-states_of
returns-in-Ok-states_of c = record {
  names = c.in_ok-names.ensures.names;
  states = c.in-Ok-states_of.ensures;
  repeats = c.in_ok-names.ensures.repeats;
  marks = c.in-Ok.ensures ∙ rw (c.as_slice.ensures.value, c.as_slice-2.ensures.value)
      (marks_are c.in_ok-names.field-0 (reversed c.args.statements.now []) c.in_ok-names.ensures);
}
